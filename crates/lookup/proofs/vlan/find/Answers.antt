use Rattle.std.proofs.Common.{mod-lt, mod-eq_of_lt, pow_pos, ◌≡◌, false, true≢false, List, ℕ, ◌-◌, ◌%◌, ◌<◌, sym, ◌∙◌, ap, subst, zero-add, eq-eqb, ne_eqb, arith}
use Rattle.laws.specs.Scan.{some_below, first}
use Rattle.laws.specs.ScanLaws.{first_more, first_found, first_of_none, none_at}
use Rattle.image.specs.Layout.{image_in, count_of}
use Rattle.image.specs.declared.tables.Table.TheVariants.{VlanLookup}
use Rattle.fields.specs.Fields.{vlanid}
use Rattle.lookup.specs.FoundLaws.{none_found, some_found}
use Rattle.lookup.specs.Groups.{from, like}
use Rattle.lookup.specs.Vlan.{has_vlan}
use Rattle.lookup.proofs.vlan.find.Goals as goal

-- a VLANID with other low bits is another
unlike : (image : List ℕ) (v i : ℕ) → like (vlanid image) (v % 4096) i ≡ false → has_vlan image v i ≡ false
unlike image v i h =
    ne_eqb (vlanid image i) v (λ q. true≢false (sym (eq-eqb (vlanid image i) (v % 4096) (sym small ∙ ap (λ (x : ℕ). x % 4096) q)) ∙ h))
  where
    small : vlanid image i % 4096 ≡ vlanid image i
    small = mod-eq_of_lt (mod-lt _ (pow_pos 12))

-- an entry with the VLANID is in the group that was found, or behind it
past : (image : List ℕ) (v n : ℕ) → some_below (n - 0) (from 0 (like (vlanid image) (v % 4096))) ≡ false → first n (has_vlan image v) ≡ n
past image v n h =
    first_of_none n (has_vlan image v)
    (λ i l. unlike image v i (subst (λ (k : ℕ). like (vlanid image) (v % 4096) k ≡ false) (zero-add i) (none_at (n - 0) i _ h (within i l))))
  where
    within : (i : ℕ) → i < n → i < n - 0
    within i l = omega arith

pub returns-in_err-group-clause-place : goal.returns-in_err-group-clause-place
returns-in_err-group-clause-place c = let n = c.count-n in
    c.from_residual.ensures
    ∙ none_found _ _ (subst (λ (k : ℕ). first k (has_vlan (image_in c.args.image.now) c.args.vlanid) ≡ k) n.ensures.0 (past _ c.args.vlanid n.result c.in_err-group.ensures))

pub loop-i-init : goal.loop-i-init
loop-i-init c = past _ c.args.vlanid _ c.in_ok-group.ensures.3

pub returns-then-vlanid-clause-place : goal.returns-then-vlanid-clause-place
returns-then-vlanid-clause-place c = let s = c.args in
    let l = c.loop-i in
    some_found _ _ _
    (sym
    (first_found (count_of (image_in s.image.now) VlanLookup) l.i (has_vlan (image_in s.image.now) s.vlanid) (omega arith) l.invariant
    (eq-eqb _ _ (sym c.vlanid.ensures.0 ∙ c.if-vlanid.true))))
    (omega arith)

pub loop-i-preserved : goal.loop-i-preserved
loop-i-preserved c = first_more c.loop-i.i (has_vlan (image_in c.args.image.now) c.args.vlanid) c.loop-i.invariant
    (ne_eqb _ _ (λ e. c.if-vlanid.false (c.vlanid.ensures.0 ∙ e)))
