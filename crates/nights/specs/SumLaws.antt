-- The row's counts over a history of the definitions are the sums of what the definitions say, and a port's frames stay below 2^32.
use Rattle.std.specs.Prelude.{◌≡◌, Bool, true, false, cond, List, [], ◌∷◌, map, ℕ, ◌+◌, ◌%◌, ◌<◌, ◌≤◌, eqb, length, get_or, set}
use Rattle.std.proofs.Math.Path.{refl}
use Rattle.std.proofs.Common.{sym, ◌∙◌, ap, subst, ⊎_elim, zero-le, add-zero, zero-add, arith, lit<, length-set, eq-eqb, ne_eqb, eqb-true}
use Rattle.image.specs.Layout.{image_in}
use Rattle.ledger.specs.Row.{frames, drops, octets, dropped, last, start, many, cell_count, cell}
use Rattle.ledger.proofs.Laws.{cells, other_place}
use Rattle.row.specs.Fresh.{fresh_of}
use Rattle.row.specs.Release.{release_refusal, given_to, released}
use Rattle.row.specs.ReleaseLaws.{releasable}
use Rattle.spend.specs.declared.Counts.{Counts}
use Rattle.spend.specs.Spend.{counted_of}
use Rattle.frame.specs.Bytes.{octets_of}
use Rattle.ports.specs.declared.Sending.{Sending}
use Rattle.plan.specs.declared.Course.{Course}
use Rattle.plan.specs.Sane.{Sane}
use Rattle.settle.specs.declared.Verdict.{Verdict}
use Rattle.settle.specs.declared.Verdict.TheVariants.{Refused, Drop, Sent}
use Rattle.settle.specs.Settle.{Judged}
use Rattle.settle.specs.Note.{counts_at, noted}
use Rattle.settle.specs.CountableLaws.{counts_kept}
use Rattle.places.specs.Places.{head_of, ten_of}
use Rattle.judge.specs.Judge.{judge_of, Called, call_of}
use Rattle.judge.specs.Admitted.{Admitted}
use Rattle.settle.specs.RunsLaws.{runs}
use Rattle.settle.specs.After.{row_after}
use Rattle.judge.specs.Laws.{admitted}
use Rattle.judge.specs.Cases.{by_cases, call_keeps}
use Rattle.judge.proofs.Proved.{own_verdict}
use Rattle.kept.specs.Lists.{same_or_not}
use Rattle.kept.specs.Fresh.{fresh_zero}
use Rattle.kept.specs.Kept.{Kept}
use Rattle.kept.specs.KeptLaws.{fresh_kept}
use Rattle.kept.specs.History.{Event, frame, release, step, after}
use Rattle.kept.specs.HistoryLaws.{step_kept}
use Rattle.flat_answers.specs.Answers.{flat_verdict}
use Rattle.nights.specs.Nights.{Said, defined_answer, defined_answers}
use Rattle.nights.specs.Sums.{Kind, refused, dropped as dropped_kind, sent, kind_of, kind_flat, kind_ten, sum_over, at_port, frame_in, drop_in, octets_in, dropped_in, sums_of}

-- ---- what became of a frame, told by numbers
pub same_kind : (v : Verdict) → kind_flat (flat_verdict v) ≡ kind_of v
same_kind (Refused n) = refl
same_kind (Drop n) = refl
same_kind (Sent s) = refl

-- a replica's kind by its ten numbers is its verdict's
pub ten_kind : (v : Verdict) → kind_ten (ten_of v) ≡ kind_of v
ten_kind (Refused n) = by (head_of 0 n % 4294967296) (omega arith)
  where
    by : (k : ℕ) → k ≡ 0 → cond (eqb k 0) refused (cond (eqb k 1) dropped_kind sent) ≡ refused
    by k e = rw e
ten_kind (Drop n) = by (head_of 1 n % 4294967296) (omega arith)
  where
    by : (k : ℕ) → k ≡ 1 → cond (eqb k 0) refused (cond (eqb k 1) dropped_kind sent) ≡ dropped_kind
    by k e = rw e
ten_kind (Sent s) = refl

pub ten_kinds : (vs : List Verdict) → map kind_ten (map ten_of vs) ≡ map kind_of vs
ten_kinds [] = refl
ten_kinds (v ∷ vs) = ap (λ (k : Kind). k ∷ map kind_ten (map ten_of vs)) (ten_kind v) ∙ ap (λ (ks : List Kind). kind_of v ∷ ks) (ten_kinds vs)

-- ---- what an event takes from a quantity of the row and brings to it, summed over a history
module _ {Verdicts Answers : Type 0} (as_verdict : Called → Verdicts) (as_answer : ℕ → Answers) (buffer : List ℕ) (quantity : List ℕ → ℕ)
    (takes brings : Event → Said Verdicts Answers → ℕ) (one : (g : List ℕ) (e : Event) → Kept (image_in buffer) g
    → quantity (step buffer g e) + takes e (defined_answer as_verdict as_answer buffer g e) ≡ quantity g + brings e (defined_answer as_verdict as_answer buffer g e)) where
  -- what is left and what was taken is what was there and what was brought
  pub balanced : (g : List ℕ) (es : List Event) → Kept (image_in buffer) g
      → quantity (after buffer g es) + sum_over takes es (defined_answers as_verdict as_answer buffer g es)
      ≡ quantity g + sum_over brings es (defined_answers as_verdict as_answer buffer g es)
  balanced g [] k = refl
  balanced g (e ∷ es) k = join _ _ _ _ _ _ _ (balanced (step buffer g e) es (step_kept buffer g e k)) (one g e k)
    where
      join : (left more before t middle b back : ℕ) → left + more ≡ middle + back → middle + t ≡ before + b → left + (t + more) ≡ before + (b + back)
      join left more before t middle b back x y = omega arith

nothing : {Verdicts Answers : Type 0} (es : List Event) (said : List (Said Verdicts Answers)) → sum_over (λ e s. 0) es said ≡ 0
nothing [] said = refl
nothing (e ∷ es) [] = refl
nothing (e ∷ es) (s ∷ said) = zero-add _ ∙ nothing es said

-- ---- what a note leaves: the port's own counts are set, the others' kept
noted_counts : (g : List ℕ) (port time l : ℕ) (drop : Bool) (p : ℕ) → length g ≡ cell_count → port < many frames → p < many frames
    → counts_at (noted g port time l drop) p ≡ cond (eqb p port) (counted_of (counts_at g p) l drop) (counts_at g p)
unfolding noted
noted_counts g port time l drop p all inside h = ⊎_elim (λ e. subst Noted e own) (λ ne. other ne) (same_or_not port p)
  where
    only : 0 < many last
    only = lit< tt

    Noted : ℕ → Type 0
    Noted q = counts_at (noted g port time l drop) q ≡ cond (eqb q port) (counted_of (counts_at g q) l drop) (counts_at g q)

    own : Noted port
    own = rw (eq-eqb port port refl) (simp (cells, all, only))

    other : (port ≡ p → ⊥) → Noted p
    other ne =
        let there : (f : List ℕ) (a v : ℕ) → get_or (set f (a + port) v) (a + p) 0 ≡ get_or f (a + p) 0 = λ f a v. other_place f a port p v ne in
        rw (ne_eqb p port (λ q. ne (sym q))) (simp (cells, there, only))

-- ---- a call's counts of port p, by cases: replicas leave them
module _ (buffer g : List ℕ) (port time p : ℕ) (bytes : List ℕ) (all : length g ≡ cell_count) (h : p < many frames) (P : Verdict → Counts → Type 0) where
  own_counts : ((n : ℕ) → P (Refused n) (counts_at g p))
      → (Admitted buffer g port time bytes → (n : ℕ) → P (Drop n) (cond (eqb p port) (counted_of (counts_at g p) (octets_of bytes) true) (counts_at g p)))
      → (Admitted buffer g port time bytes → (s : Sending) → P (Sent s) (cond (eqb p port) (counted_of (counts_at g p) (octets_of bytes) false) (counts_at g p)))
      → P (judge_of buffer g port time bytes).verdict (counts_at (judge_of buffer g port time bytes).row p)
  own_counts none drop send =
      by_cases buffer g port time bytes (λ (j : Judged). P j.verdict (counts_at j.row p)) (λ z. none _)
      (λ a n e. subst (P (Drop n)) (sym (noted_counts g port time (octets_of bytes) true p all a.inside h)) (drop a n))
      (λ a w e f z. subst (P (Drop _)) (sym (spent a w f true)) (drop a _))
      (λ a w e f z. subst (P (Sent w.sending)) (sym (spent a w f false)) (send a w.sending))
    where
      spent : Admitted buffer g port time bytes → (w : Course) → Sane (image_in buffer) w → (drop : Bool)
          → counts_at (noted (row_after g w time (octets_of bytes)) port time (octets_of bytes) drop) p
          ≡ cond (eqb p port) (counted_of (counts_at g p) (octets_of bytes) drop) (counts_at g p)
      spent a w f drop =
          let r = runs buffer w a.image f in
          noted_counts (row_after g w time (octets_of bytes)) port time (octets_of bytes) drop p (simp length-set all) a.inside h
          ∙ ap (λ (c : Counts). cond (eqb p port) (counted_of c (octets_of bytes) drop) c) (counts_kept g w _ p r.meter r.partition h)

  replicas_counts : counts_at (call_of buffer g port time bytes).row p ≡ counts_at (judge_of buffer g port time bytes).row p
  replicas_counts =
      call_keeps buffer g port time bytes (λ vs x. counts_at x p ≡ counts_at (judge_of buffer g port time bytes).row p) refl
      (λ e vlan place priority i.
      let a = admitted buffer g port time bytes e in
      record {
        early = λ vs x v n q k. k;
        dropped = λ vs x v w q f z k. let r = runs buffer w a.image f in counts_kept x w _ p r.meter r.partition h ∙ k;
        sent = λ vs x v w q f z k. let r = runs buffer w a.image f in counts_kept x w _ p r.meter r.partition h ∙ k;
      })

  counts_cases : ((n : ℕ) → P (Refused n) (counts_at g p))
      → (Admitted buffer g port time bytes → (n : ℕ) → P (Drop n) (cond (eqb p port) (counted_of (counts_at g p) (octets_of bytes) true) (counts_at g p)))
      → (Admitted buffer g port time bytes → (s : Sending) → P (Sent s) (cond (eqb p port) (counted_of (counts_at g p) (octets_of bytes) false) (counts_at g p)))
      → P (call_of buffer g port time bytes).verdict (counts_at (call_of buffer g port time bytes).row p)
  counts_cases none drop send =
      subst (λ (v : Verdict). P v (counts_at (call_of buffer g port time bytes).row p)) (sym (own_verdict buffer g port time bytes))
      (subst (P (judge_of buffer g port time bytes).verdict) (sym replicas_counts) (own_counts none drop send))

release_counts : (buffer g : List ℕ) (partition p : ℕ) → p < many frames → counts_at (released buffer g partition) p ≡ counts_at g p
unfolding released
release_counts buffer g partition p h = go (eqb (release_refusal buffer g partition) 0) refl
  where
    go : (t : Bool) → t ≡ eqb (release_refusal buffer g partition) 0 → counts_at (cond t (given_to g partition) g) p ≡ counts_at g p
    go true e = let inside = (releasable buffer g partition (eqb-true _ 0 (sym e))).has.inside in simp cells
    go false e = refl

-- ---- one of the four counts, and what a frame adds to it
record Counter (count : Counts → ℕ) (each : Kind → List ℕ → ℕ) : Type 0 where
  refuses : (bytes : List ℕ) → each refused bytes ≡ 0
  drops : (c : Counts) (bytes : List ℕ) → count (counted_of c (octets_of bytes) true) ≡ count c + each dropped_kind bytes
  sends : (c : Counts) (bytes : List ℕ) → count (counted_of c (octets_of bytes) false) ≡ count c + each sent bytes

module _ {Verdicts Answers : Type 0} (as_verdict : Called → Verdicts) (as_answer : ℕ → Answers) (kind : Verdicts → Kind) (same : (c : Called) → kind (as_verdict c) ≡ kind_of c.verdict)
    (buffer : List ℕ) (p : ℕ) (inside : p < many frames) where
  module _ (count : Counts → ℕ) (each : Kind → List ℕ → ℕ) (c : Counter count each) where
    counted_one : (g : List ℕ) (e : Event) → Kept (image_in buffer) g
        → count (counts_at (step buffer g e) p) + 0 ≡ count (counts_at g p) + at_port kind p each e (defined_answer as_verdict as_answer buffer g e)
    counted_one g (frame port time bytes) k =
        add-zero _
        ∙ counts_cases buffer g port time p bytes k.all inside (λ v d. count d ≡ count (counts_at g p) + cond (eqb p port) (each (kind_of v) bytes) 0) (λ n. none (eqb p port))
        (λ a n. one true dropped_kind (c.drops (counts_at g p) bytes) (eqb p port))
        (λ a s. one false sent (c.sends (counts_at g p) bytes) (eqb p port))
        ∙ ap (λ (x : Kind). count (counts_at g p) + cond (eqb p port) (each x bytes) 0) (sym (same (call_of buffer g port time bytes)))
      where
        none : (t : Bool) → count (counts_at g p) ≡ count (counts_at g p) + cond t (each refused bytes) 0
        none true = sym (ap (λ (x : ℕ). count (counts_at g p) + x) (c.refuses bytes) ∙ add-zero _)
        none false = sym (add-zero _)

        one : (drop : Bool) (x : Kind) → count (counted_of (counts_at g p) (octets_of bytes) drop) ≡ count (counts_at g p) + each x bytes → (t : Bool)
            → count (cond t (counted_of (counts_at g p) (octets_of bytes) drop) (counts_at g p)) ≡ count (counts_at g p) + cond t (each x bytes) 0
        one drop x e true = e
        one drop x e false = sym (add-zero _)
    counted_one g (release partition) k = ap (λ (d : Counts). count d + 0) (release_counts buffer g partition p inside)

    counted_all : (es : List Event) → count (counts_at (fresh_of (image_in buffer)) p) ≡ 0
        → count (counts_at (after buffer (fresh_of (image_in buffer)) es) p) ≡ sum_over (at_port kind p each) es (defined_answers as_verdict as_answer buffer (fresh_of (image_in buffer)) es)
    counted_all es z =
        let g = fresh_of (image_in buffer) in
        sym (add-zero _)
        ∙ ap (λ (x : ℕ). count (counts_at (after buffer g es) p) + x) (sym (nothing es (defined_answers as_verdict as_answer buffer g es)))
        ∙ balanced as_verdict as_answer buffer (λ x. count (counts_at x p)) (λ e s. 0) (at_port kind p each) counted_one g es (fresh_kept (image_in buffer))
        ∙ ap (λ (x : ℕ). x + sum_over (at_port kind p each) es (defined_answers as_verdict as_answer buffer g es)) z
        ∙ zero-add _

  -- from a fresh row on, the four counts are the four sums
  pub counts_are_sums : (es : List Event)
      → counts_at (after buffer (fresh_of (image_in buffer)) es) p ≡ sums_of kind p es (defined_answers as_verdict as_answer buffer (fresh_of (image_in buffer)) es)
  unfolding counted_of
  counts_are_sums es =
      λ i.
      record {
        frames =
            counted_all (λ (c : Counts). c.frames) frame_in (record { refuses = λ bytes. refl; drops = λ c bytes. refl; sends = λ c bytes. refl }) es
            (fresh_zero (image_in buffer) (start frames) p (omega arith) (omega arith))
            i;
        drops =
            counted_all (λ (c : Counts). c.drops) drop_in (record { refuses = λ bytes. refl; drops = λ c bytes. refl; sends = λ c bytes. refl }) es
            (fresh_zero (image_in buffer) (start drops) p (omega arith) (omega arith))
            i;
        octets =
            counted_all (λ (c : Counts). c.octets) octets_in (record { refuses = λ bytes. refl; drops = λ c bytes. refl; sends = λ c bytes. refl }) es
            (fresh_zero (image_in buffer) (start octets) p (omega arith) (omega arith))
            i;
        dropped =
            counted_all (λ (c : Counts). c.dropped) dropped_in (record { refuses = λ bytes. refl; drops = λ c bytes. refl; sends = λ c bytes. refl }) es
            (fresh_zero (image_in buffer) (start dropped) p (omega arith) (omega arith))
            i;
      }

-- ---- 38 keeps a port's frames below 2^32
few_after : (buffer g : List ℕ) (p : ℕ) (es : List Event) → p < many frames → Kept (image_in buffer) g → (counts_at g p).frames ≤ 4294967295
    → (counts_at (after buffer g es) p).frames ≤ 4294967295
unfolding counted_of
few_after buffer g p [] h k l = l
few_after buffer g p (e ∷ es) h k l = few_after buffer (step buffer g e) p es h (step_kept buffer g e k) (one e)
  where
    one : (e : Event) → (counts_at (step buffer g e) p).frames ≤ 4294967295
    one (frame port time bytes) =
        counts_cases buffer g port time p bytes k.all h (λ v c. c.frames ≤ 4294967295) (λ n. l) (λ a n. more a true (eqb p port) refl) (λ a s. more a false (eqb p port) refl)
      where
        more : Admitted buffer g port time bytes → (drop t : Bool) → eqb p port ≡ t
            → (cond t (counted_of (counts_at g p) (octets_of bytes) drop) (counts_at g p)).frames ≤ 4294967295
        more a drop true q = subst (λ (x : ℕ). cell g frames x + 1 ≤ 4294967295) (sym (eqb-true p port q)) (omega (arith, a.countable.room))
        more a drop false q = l
    one (release partition) = subst (λ (c : Counts). c.frames ≤ 4294967295) (sym (release_counts buffer g partition p h)) l

-- from a fresh row on
pub few : (buffer : List ℕ) (p : ℕ) (es : List Event) → p < many frames → (counts_at (after buffer (fresh_of (image_in buffer)) es) p).frames ≤ 4294967295
few buffer p es h =
    few_after buffer (fresh_of (image_in buffer)) p es h (fresh_kept (image_in buffer))
    (subst (λ (x : ℕ). x ≤ 4294967295) (sym (fresh_zero (image_in buffer) (start frames) p (omega arith) (omega arith))) zero-le)
