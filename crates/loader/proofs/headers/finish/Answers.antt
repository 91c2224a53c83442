-- `headers::finish`: the image is marked, and the rules decide between the two ways.
use Rattle.std.proofs.Common.{refl, sym, ◌∙◌, ap, subst, List, ℕ}
use Rattle.image.specs.Layout.{image_in}
use Rattle.image.specs.Sound.{Bounded}
use Rattle.rules.specs.Rules.{ruled}
use Rattle.rules.proofs.ToldLaws.{not_0}
use Rattle.stream.specs.Machine.{refuse}
use Rattle.stream.proofs.StatesLaws.{so}
use Rattle.loader.proofs.HeadersLaws.{bounded_marked, finish_refused, finish_told}
use Rattle.loader.proofs.headers.finish.Goals as goal

pub first_broken_rule-requires : goal.first_broken_rule-requires
first_broken_rule-requires c = subst (λ (l : List ℕ). Bounded l) (sym c.set_mark.ensures) (bounded_marked _ c.requires.whole c.requires.within)

pub returns-in-Ok : goal.returns-in-Ok
returns-in-Ok c = let image = c.args.image.now in
    so (finish_told image _ (c.in-Ok.ensures ∙ ap (λ (l : List ℕ). ruled (image_in l)) c.set_mark.ensures) refl)
    (record { state = c.told.ensures; kept = c.set_mark.ensures })

pub returns-in-Err : goal.returns-in-Err
returns-in-Err c = let image = c.args.image.now in
    so
    (ap (λ (l : List ℕ). refuse l c.from.result) c.set_mark.ensures
    ∙ finish_refused image _ (c.from.ensures ∙ c.in-Err.ensures ∙ ap (λ (l : List ℕ). ruled (image_in l)) c.set_mark.ensures) (λ q. not_0 _ (sym c.from.ensures ∙ q)))
    c.refuse.ensures
