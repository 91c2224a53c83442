-- What a load's answer says tells every answer apart.
use Rattle.std.specs.Prelude.{◌≡◌, refl}
use Rattle.std.proofs.Common.{ap}
use Rattle.laws.specs.Says.{Says}
use Rattle.laws.specs.SaysLaws.{other_kind}
use Rattle.stream.specs.Answers.{said_of}
use Rattle.stream.specs.declared.Answer.{Answer}
use Rattle.stream.specs.declared.Answer.TheVariants.{More, Loaded, Refused}

pub apart : (a b : Answer) → said_of a ≡ said_of b → a ≡ b
apart (Refused m) (Refused n) e = ap (λ (s : Says). Refused s.number) e
apart Loaded Loaded e = refl
apart More More e = refl
apart (Refused m) Loaded e = absurd (other_kind e refl)
apart (Refused m) More e = absurd (other_kind e refl)
apart Loaded (Refused n) e = absurd (other_kind e refl)
apart Loaded More e = absurd (other_kind e refl)
apart More (Refused n) e = absurd (other_kind e refl)
apart More Loaded e = absurd (other_kind e refl)
