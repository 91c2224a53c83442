-- That an image which 31 and 30 do not refuse has it, and that its entries can be read.
use Rattle.std.specs.Prelude.{◌≡◌, Bool, false, not, List, ℕ, ◌<◌, ◌≤◌, eqb, length}
use Rattle.std.proofs.Common.{sym, ◌∙◌, subst, pos_of_ne-zero, lt_of_lt_of_le, lit≤, ltb-false, le-ltb, eqb-true}
use Rattle.std.proofs.lemmas.Bool.{eqb-false, not-false}
use Rattle.laws.specs.Chain.{none_first, none_rest}
use Rattle.laws.specs.ScanLaws.{none_at, none_all}
use Rattle.image.specs.Rows.{index_of, table_count, row_at, most_of}
use Rattle.image.specs.RowLaws.{placed}
use Rattle.image.specs.Layout.{image_words, image_in, count_of, mark_of, Held}
use Rattle.image.specs.Loaded.{too_short, above, over_limit, incomplete, not_loaded}
use Rattle.image.specs.declared.tables.Table.{Table}
use Rattle.image.specs.declared.tables.Table.TheVariants.{Policing, VlanLookup, Forwarding, MacConfiguration, ForwardingParameters}
use Rattle.image.specs.Sound.{Within, Bounded, Complete, Sound}

-- 31's test failed: the buffer has an image
pub has_room : (buffer : List ℕ) (short : Bool) → short ≡ too_short buffer → short ≡ false → image_words ≤ length buffer
has_room buffer short e h = ltb-false (length buffer) image_words (sym e ∙ h)

-- 30's test of the limits is this
pub within_limits : (image : List ℕ) → over_limit image ≡ false → Within image
unfolding over_limit
within_limits image e t =
    subst (λ (u : Table). count_of image u ≤ most_of u) (placed t).back
    (ltb-false _ _ (none_at table_count (index_of t) (λ k. above image (row_at k).table) e (placed t).inside))

pub limits_within : (image : List ℕ) → Within image → over_limit image ≡ false
unfolding over_limit
limits_within image w = none_all table_count (λ k. above image (row_at k).table) (λ k h. le-ltb _ _ (w (row_at k).table))

-- an entry below its table's count is there to read
pub held : (buffer : List ℕ) (t : Table) (i : ℕ) → Bounded buffer → i < count_of (image_in buffer) t → Held t i buffer
held buffer t i b h = record { whole = b.whole; within = b.within t; there = h }

pub complete : (image : List ℕ) → incomplete image ≡ false → Complete image
unfolding incomplete
complete image e =
    let e2 = none_rest (eqb (count_of image Policing) 0) _ e in
    let e3 = none_rest (eqb (count_of image VlanLookup) 0) _ e2 in
    let e4 = none_rest (not (eqb (count_of image Forwarding) 13)) _ e3 in
    let e5 = none_rest (not (eqb (count_of image MacConfiguration) 5)) _ e4 in
    record {
      policing = pos_of_ne-zero (eqb-false _ 0 (none_first (eqb (count_of image Policing) 0) _ e));
      vlans = pos_of_ne-zero (eqb-false _ 0 (none_first (eqb (count_of image VlanLookup) 0) _ e2));
      forwarding = eqb-true _ 13 (not-false _ (none_first (not (eqb (count_of image Forwarding) 13)) _ e3));
      ports = eqb-true _ 5 (not-false _ (none_first (not (eqb (count_of image MacConfiguration) 5)) _ e4));
      spaces = eqb-true _ 1 (not-false _ (none_first (not (eqb (count_of image ForwardingParameters) 1)) _ e5));
    }

pub sound : (buffer : List ℕ) → image_words ≤ length buffer → not_loaded (image_in buffer) ≡ false → Sound buffer
unfolding not_loaded
sound buffer h e =
    let e2 = none_rest (not (eqb (mark_of (image_in buffer)) 1)) _ e in
    record {
      marked = eqb-true _ 1 (not-false _ (none_first (not (eqb (mark_of (image_in buffer)) 1)) _ e));
      within = record { whole = h; within = within_limits (image_in buffer) (none_first (over_limit (image_in buffer)) _ e2) };
      has = complete (image_in buffer) (none_rest (over_limit (image_in buffer)) _ e2);
    }

-- each port's entries of 09 and of 08 are there
pub port_held : (buffer : List ℕ) (port : ℕ) → Sound buffer → port < 5 → Held MacConfiguration port buffer
port_held buffer port s h = held buffer MacConfiguration port s.within (subst (λ (n : ℕ). port < n) (sym s.has.ports) h)

pub domain_held : (buffer : List ℕ) (port : ℕ) → Sound buffer → port < 5 → Held Forwarding port buffer
domain_held buffer port s h = held buffer Forwarding port s.within (subst (λ (n : ℕ). port < n) (sym s.has.forwarding) (lt_of_lt_of_le h (lit≤ tt)))
