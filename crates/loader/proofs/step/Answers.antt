-- `loader::step`: by the phase.
use Rattle.std.proofs.Common.{refl, ◌∙◌, ap, ℕ}
use Rattle.stream.proofs.StatesLaws.{so}
use Rattle.loader.proofs.Laws.{at_phase}
use Rattle.stream.specs.Machine.{at, headed, sized}
use Rattle.loader.proofs.step.Goals as goal

pub returns-in-Device : goal.returns-in-Device
returns-in-Device c = so (at_phase c.args.load c.args.image.now _ _ c.in-Device.is) c.device.ensures

pub returns-in-Id : goal.returns-in-Id
returns-in-Id c = let a = c.args in
    so (ap (λ (x : ℕ). at (headed x a.w) a.image.now) c.word_in.ensures ∙ at_phase a.load a.image.now a.w _ c.in-Id.is)
    (record { state = c.headed.ensures; kept = refl })

pub returns-in-Length : goal.returns-in-Length
returns-in-Length c = let a = c.args in
    so (ap (λ (x : ℕ). at (sized x a.load.first a.w) a.image.now) c.word_in-in-Length.ensures ∙ at_phase a.load a.image.now a.w _ c.in-Length.is)
    (record { state = c.sized.ensures; kept = refl })

pub returns-in-Sum : goal.returns-in-Sum
returns-in-Sum c = so (at_phase c.args.load c.args.image.now _ _ c.in-Sum.is) c.summed.ensures

pub returns-in-Data : goal.returns-in-Data
returns-in-Data c = so (at_phase c.args.load c.args.image.now _ _ c.in-Data.is) c.filled.ensures

pub returns-in-Told : goal.returns-in-Told
returns-in-Told c = let a = c.args in
    so (at_phase a.load a.image.now a.w _ c.in-Told.is) (record { state = refl; kept = refl })
