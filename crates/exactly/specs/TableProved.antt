-- The proved table's one statement, proved from the definitions and from the pages.
use Rattle.std.specs.Prelude.{◌≡◌, refl, true, false, cond, List, [], ◌∷◌, ◌++◌, ℕ, suc, ◌%◌, ◌<◌, ◌≤◌, ltb, length, Ok}
use Rattle.std.proofs.Common.{sym, ◌∙◌, ap, subst, true≢false, append-nil, zero-le, lt_irrefl, le_refl, lit<, ltb-true, lt-ltb, eq-eqb, ne_eqb}
use Rattle.std.proofs.lemmas.Bool.{eqb-false}
use Rattle.laws.specs.Scan.{total}
use Rattle.crc.specs.Crc.{checksum}
use Rattle.image.specs.Rows.{row_of, room}
use Rattle.image.specs.Blocks.{Block, block_of}
use Rattle.image.specs.Layout.{image_in, entry_of}
use Rattle.image.specs.declared.tables.Table.{Table}
use Rattle.image.specs.declared.tables.Table.TheVariants.{AddressLookup, Policing, VlanLookup, Forwarding, MacConfiguration, LookupParameters, ForwardingParameters, GeneralParameters, XmiiModeParameters, Retagging}
use Rattle.fields.specs.Fields.{part_spc}
use Rattle.fields.specs.Packed.{Packed}
use Rattle.fields.specs.Proved.{row_a, row_b}
use Rattle.stream.specs.Header.{Wrong, device, id_of, length_of, header_of}
use Rattle.stream.specs.Paper.{refused, passed, none, had, blocks, framed}
use Rattle.stream.specs.Order.{Piece, block_in, streamed, Proper, is_of, brings, after}
use Rattle.stream.specs.OrderLaws.{ordered}
use Rattle.rules.specs.Rules.{ruled}
use Rattle.spend.specs.Meter.{refilled, cost}
use Rattle.spend.specs.Proved.{row_h, row_i, row_j}
use Rattle.frame.specs.Bytes.{octets_of}
use Rattle.settle.specs.declared.Verdict.TheVariants.{Drop}
use Rattle.judge.specs.declared.Judgement.{Judgement}
use Rattle.exactly.specs.First.{First, At}
use Rattle.exactly.specs.FirstLaws.{first_at, at_first}
use Rattle.exactly.specs.Rules.{Over, rules_page}
use Rattle.exactly.specs.RulesProved.{ruled_first, ruled_by}
use Rattle.exactly.specs.Steps.{credit_for, frame_page, verdict_by}
use Rattle.exactly.specs.StepsProved.{first_that_applies}
use Rattle.exactly.specs.Table.{VlanEntry, Meter, Reaches, VlanBlock, ProvedTable}

-- ---- (a) and (b)

entry_is : (image : List ℕ) (i m b t v : ℕ) (words : List ℕ) → Packed words m b t v → entry_of image VlanLookup i ≡ words → VlanEntry image i m b t v
entry_is image i m b t v words packed e =
    let p = subst (λ (ws : List ℕ). Packed ws m b t v) (sym e) packed in
    record { members_are = p.members; broadcasts_are = p.broadcasts; tags_are = p.tags; vlan_is = p.vlan; nothing_else = p }

-- ---- (c), (d) and (e)

-- a header with the right checksum that is wrong by its ID or its length
wrong_block : (turns : ℕ) (before : List ℕ) (first second n : ℕ) (rest : List ℕ) → (length_of second ≡ 0 → ⊥)
    → header_of (block_of (id_of first)) (length_of second) (had none) ≡ Wrong n
    → blocks (suc turns) before none (first ∷ second ∷ checksum (first ∷ second ∷ []) ∷ rest) ≡ refused n
unfolding blocks
wrong_block turns before first second n rest z e = rw (ne_eqb (length_of second) 0 z, eq-eqb (checksum (first ∷ second ∷ [])) (checksum (first ∷ second ∷ [])) refl, e) refl

-- a block of 07 of this length, the first of a stream
wrong_first : (first second length n : ℕ) (rest : List ℕ) → id_of first ≡ 0x07 → length_of second ≡ length → (length ≡ 0 → ⊥)
    → header_of (block_of 0x07) length (had none) ≡ Wrong n
    → framed (device ∷ first ∷ second ∷ checksum (first ∷ second ∷ []) ∷ rest) ≡ refused n
unfolding framed
wrong_first first second length n rest id long z e =
    wrong_block _ (device ∷ []) first second n rest (λ q. z (sym long ∙ q))
    (ap (λ (x : ℕ). header_of (block_of x) (length_of second) (had none)) id ∙ ap (λ (x : ℕ). header_of (block_of 0x07) x (had none)) long ∙ e)

five : header_of (block_of 0x07) 3 (had none) ≡ Wrong 5
unfolding block_of
five = refl

six : header_of (block_of 0x07) 8194 (had none) ≡ Wrong 6
unfolding block_of
six = refl

names_vlan : block_of 0x07 ≡ Ok VlanLookup
unfolding block_of
names_vlan = refl

fits : (p : Piece) (e0 e1 : ℕ) → VlanBlock p 8192 → length_of e1 ≡ 0 → framed (streamed (p ∷ []) e0 e1) ≡ passed (after none (p ∷ []))
unfolding brings
fits p e0 e1 b end =
    ordered (p ∷ []) e0 e1 (proper, tt)
    (λ t. subst (λ (x : Block). length (cond (is_of t x) (p.words ++ []) []) ≤ room (row_of t)) (sym named) (within t)) end
  where
    named : block_in p ≡ Ok VlanLookup
    named = ap block_of b.id_is ∙ names_vlan

    proper : Proper p
    proper =
        record {
          table = VlanLookup;
          named = named;
          some = subst (λ (n : ℕ). 0 < n) (sym b.words_are) (lit< tt);
          told = b.length_is ∙ sym b.words_are;
          whole = ap (λ (n : ℕ). n % 2) b.words_are;
        }

    own : length (p.words ++ []) ≤ 8192
    own = subst (λ (n : ℕ). n ≤ 8192) (sym (ap length (append-nil p.words) ∙ b.words_are)) (le_refl 8192)

    within : (t : Table) → length (cond (is_of t (Ok VlanLookup)) (p.words ++ []) []) ≤ room (row_of t)
    within AddressLookup = zero-le
    within Policing = zero-le
    within VlanLookup = own
    within Forwarding = zero-le
    within MacConfiguration = zero-le
    within LookupParameters = zero-le
    within ForwardingParameters = zero-le
    within GeneralParameters = zero-le
    within XmiiModeParameters = zero-le
    within Retagging = zero-le

-- ---- (f) and (g)

sum_passes : (image : List ℕ) → total 8 (λ j. part_spc image j) ≡ 929 → ruled image ≡ 24 → ⊥
sum_passes image sum e =
    let over : Over image = at_first (rules_page image) 24 refl (eqb-false 24 0 refl) (subst (First (rules_page image)) e (ruled_first image)) in
    lt_irrefl 929 (subst (λ (n : ℕ). 929 < n) sum over)

-- ---- (h) to (k)
module _ (buffer row : List ℕ) (port time : ℕ) (frame places : List ℕ) (r : Judgement) (left told : List ℕ) where
  -- a frame that reaches n's clause has n's verdict exactly where the clause holds
  drops : (n : ℕ) → Reaches buffer row port time frame places n r left told → At n (frame_page buffer row port time frame) → r.verdict ≡ verdict_by buffer port frame n
  drops n t a = ((first_that_applies buffer row port time frame places r left told t.judged).when n).0 (first_at (frame_page buffer row port time frame) n t.past a)

  dropped : (n : ℕ) → Reaches buffer row port time frame places n r left told → (n ≡ 0 → ⊥) → r.verdict ≡ verdict_by buffer port frame n → At n (frame_page buffer row port time frame)
  dropped n t z e = at_first (frame_page buffer row port time frame) n refl z (((first_that_applies buffer row port time frame places r left told t.judged).when n).1 e)

  credit_is : (s g c e l : ℕ) → Meter (image_in buffer) row port time frame s g c e l → credit_for (image_in buffer) port frame row time ≡ refilled s g c e
  credit_is s g c e l m = λ i. refilled (m.smax_is i) (m.rate_is i) (m.credit_is i) (m.elapsed_is i)

  cost_is : (s g c e l : ℕ) → Meter (image_in buffer) row port time frame s g c e l → cost (octets_of frame) ≡ cost l
  cost_is s g c e l m = ap cost m.octets_are

  -- the meter is short
  is_short : (s g c e l : ℕ) → Reaches buffer row port time frame places 9 r left told → Meter (image_in buffer) row port time frame s g c e l
      → ltb (refilled s g c e) (cost l) ≡ true
      → r.verdict ≡ Drop 9
  is_short s g c e l t m short = drops 9 t (ltb-true _ _ (ap (λ (x : ℕ). ltb x (cost (octets_of frame))) (credit_is s g c e l m) ∙ ap (ltb (refilled s g c e)) (cost_is s g c e l m) ∙ short))

  -- or it is not
  not_short : (s g c e l : ℕ) → Reaches buffer row port time frame places 9 r left told → Meter (image_in buffer) row port time frame s g c e l
      → ltb (refilled s g c e) (cost l) ≡ false
      → r.verdict ≡ Drop 9
      → ⊥
  not_short s g c e l t m enough q =
      true≢false
      (sym (lt-ltb _ _ (dropped 9 t (eqb-false 9 0 refl) q))
      ∙ ap (λ (x : ℕ). ltb x (cost (octets_of frame))) (credit_is s g c e l m)
      ∙ ap (ltb (refilled s g c e)) (cost_is s g c e l m)
      ∙ enough)

  few : Reaches buffer row port time frame places 1 r left told → octets_of frame ≡ 63 → r.verdict ≡ Drop 1
  few t e = drops 1 t (subst (λ (n : ℕ). n < 64) (sym e) (lit< tt))

  enough : Reaches buffer row port time frame places 1 r left told → octets_of frame ≡ 64 → r.verdict ≡ Drop 1 → ⊥
  enough t e q = lt_irrefl 64 (subst (λ (n : ℕ). n < 64) e (dropped 1 t (eqb-false 1 0 refl) q))

-- "One statement proves these eleven from the definitions"
pub proved_table : ProvedTable
proved_table =
    record {
      a = λ image i. entry_is image i 31 31 0 1 (0x08000000 ∷ 0x003FF000 ∷ []) row_a;
      b = λ image i. entry_is image i 0 0 0 4095 (0xF8000000 ∷ 0x0000007F ∷ []) row_b;
      c = λ first second rest id long. wrong_first first second 3 5 rest id long (eqb-false 3 0 refl) five;
      d = fits;
      e = λ first second rest id long. wrong_first first second 8194 6 rest id long (eqb-false 8194 0 refl) six;
      f = sum_passes;
      g = λ image past sum. ruled_by image 24 (first_at (rules_page image) 24 past (subst (λ (n : ℕ). 929 < n) (sym sum) (lit< tt)));
      h = λ buffer row port time frame places r left told t m. is_short buffer row port time frame places r left told 64 64 0 511 64 t m row_h;
      i = λ buffer row port time frame places r left told t m. not_short buffer row port time frame places r left told 64 64 0 512 64 t m row_i;
      j = λ buffer row port time frame places r left told gain old elapsed t m. is_short buffer row port time frame places r left told 63 gain old elapsed 64 t m (row_j gain old elapsed);
      k = few;
      k_on = enough;
    }
