-- Two answers of different kinds say different things.
use Rattle.std.specs.Prelude.{◌≡◌, false, eqb}
use Rattle.std.proofs.Common.{ap}
use Rattle.std.proofs.lemmas.Bool.{eqb-false}
use Rattle.laws.specs.Says.{Says}

pub other_kind : {a b : Says} → a ≡ b → eqb a.kind b.kind ≡ false → ⊥
other_kind {a} {b} e ne = eqb-false a.kind b.kind ne (ap (λ (s : Says). s.kind) e)
