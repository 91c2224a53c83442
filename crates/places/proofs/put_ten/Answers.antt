-- `places::put_ten`: ten numbers over those that stand there.
use Rattle.std.proofs.Common.{◌≡◌, List, ℕ, ◌+◌, ◌-◌, ◌≤◌, ◌++◌, length, take, drop, sym, ◌∙◌, ap, subst, arith, length-drop}
use Rattle.std.proofs.lemmas.List.{take-append-drop, length-take-le}
use borrow.Rule.Slice.PartMut.{put_mid}
use Rattle.places.specs.Places.{ten, put_from}
use Rattle.places.specs.PlacesLaws.{put_behind}
use Rattle.places.proofs.put_ten.Goals as goal

-- what is put in the place of as many stands there one behind the other
put_over : (places put xs : List ℕ) (at k : ℕ) → put ≡ xs → k ≡ length xs → at + length xs ≤ length places → put_mid at k places put ≡ put_from places at 0 xs
put_over places put xs at k e n h =
    ap (put_mid at k places) e
    ∙ ap (λ (m : ℕ). put_mid at m places xs) n
    ∙ sym (put_behind (take at places) (drop at places) xs at 0 front rest)
    ∙ ap (λ (l : List ℕ). put_from l at 0 xs) (take-append-drop at places)
  where
    front : at + 0 ≡ length (take at places)
    front = let l = length-take-le at places (omega arith) in omega arith

    rest : length xs ≤ length (drop at places)
    rest = let l = length-drop at places in omega arith

pub returns : goal.returns
returns c = put_over c.args.places.now _ (ten c.args.head c.args.s) c.args.at _ c.copy_from_slice.ensures.after (omega arith) c.requires
