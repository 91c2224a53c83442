use Rattle.std.proofs.Common.{◌≡◌, false, List, ℕ, ◌+◌, ◌-◌, ◌%◌, ◌<◌, ◌≤◌, true, sym, ◌∙◌, le_of_lt, zero-le, arith}
use Rattle.laws.specs.Scan.{some_below}
use Rattle.laws.specs.ScanLaws.{some_none, none_all}
use Rattle.image.specs.Layout.{image_in, count_of}
use Rattle.image.specs.declared.tables.Table.TheVariants.{AddressLookup}
use Rattle.lookup.specs.Groups.{from}
use Rattle.lookup.specs.GroupsLaws.{none_up_to, some_in}
use Rattle.addresses.specs.Address.{like_address, bars}
use Rattle.addresses.specs.LeadingLaws.{unlike_bar}
use Rattle.addresses.proofs.barred.Goals as goal

-- none so far, and none of the entries that are passed over
further : (image : List ℕ) (port vlan mac i r : ℕ) → i ≤ r → some_below i (bars image port vlan mac) ≡ false
    → some_below (r - i) (from i (like_address image (mac % 268435456))) ≡ false
    → some_below r (bars image port vlan mac) ≡ false
further image port vlan mac i r l h none =
    none_up_to (bars image port vlan mac) i r l h
    (none_all (r - i) (from i (bars image port vlan mac)) (λ k m. unlike_bar image vlan mac i r none (i + k) (from_i k) (before_r k m) port))
  where
    from_i : (k : ℕ) → i ≤ i + k
    from_i k = omega arith

    before_r : (k : ℕ) → k < r - i → i + k < r
    before_r k m = omega arith

pub loop-group-init : goal.loop-group-init
loop-group-init c = (zero-le, some_none _)

pub returns-then-group_bars : goal.returns-then-group_bars
returns-then-group_bars c = let t = c.new-search.ensures in
    let s = c.new-search.result in
    let a = c.args in
    let g = c.in-Some.group in
    let inside : g.start + (g.end - g.start) ≤ s.len = omega (arith, c.in-Some.ensures.1, c.in-Some.ensures.2) in
    let there : some_below s.len (bars (image_in s.image.now) a.port s.vlan s.mac) ≡ true =
    some_in s.len g.start (g.end - g.start) _ inside (sym c.group_bars.ensures ∙ c.if-group_bars.true) in
    let whole : some_below (count_of (image_in a.image.now) AddressLookup) (bars (image_in a.image.now) a.port a.vlan a.mac) ≡ true =
    cc (t.0, t.1, t.2, t.3, there) in
    sym whole

pub loop-group-preserved : goal.loop-group-preserved
loop-group-preserved c = let s = c.new-search.result in
    let g = c.in-Some in
    let before = further (image_in s.image.now) c.args.port s.vlan s.mac c.loop-group.passed g.group.start g.ensures.0 c.loop-group.invariant.1 g.ensures.3 in (
      g.ensures.2,
      none_up_to (bars (image_in s.image.now) c.args.port s.vlan s.mac) g.group.start g.group.end (le_of_lt g.ensures.1) before (sym c.group_bars.ensures ∙ c.if-group_bars.false),
    )

pub returns : goal.returns
returns c = let t = c.new-search.ensures in
    let s = c.new-search.result in
    let a = c.args in
    let none : some_below s.len (bars (image_in s.image.now) a.port s.vlan s.mac) ≡ false =
    further (image_in s.image.now) a.port s.vlan s.mac c.loop-group.passed s.len c.loop-group.invariant.0 c.loop-group.invariant.1 c.in_default.ensures in
    let whole : some_below (count_of (image_in a.image.now) AddressLookup) (bars (image_in a.image.now) a.port a.vlan a.mac) ≡ false =
    cc (t.0, t.1, t.2, t.3, none) in
    sym whole
