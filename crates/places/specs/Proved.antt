-- What pins a verdict's ten numbers: the words of D104, computed for one of each kind.
use Rattle.std.specs.Prelude.{◌≡◌, refl, [], ◌∷◌}
use Rattle.settle.specs.declared.Verdict.TheVariants.{Refused, Drop, Sent}
use Rattle.places.specs.Places.{ten_of}

-- "kind + 2^32 × number"
pub refused_is : ten_of (Refused 38) ≡ 163208757248 ∷ 0 ∷ 0 ∷ 0 ∷ 0 ∷ 0 ∷ 0 ∷ 0 ∷ 0 ∷ 0 ∷ []
refused_is = refl

pub dropped_is : ten_of (Drop 11) ≡ 47244640257 ∷ 0 ∷ 0 ∷ 0 ∷ 0 ∷ 0 ∷ 0 ∷ 0 ∷ 0 ∷ 0 ∷ []
dropped_is = refl

-- "ports, VLAN, priority, tags, five queues"
pub sent_is : ten_of (Sent (record { ports = 30; vlan = 2; priority = 5; tags = 6; queue0 = 0; queue1 = 1; queue2 = 3; queue3 = 4; queue4 = 7 }))
    ≡ 2 ∷ 30 ∷ 2 ∷ 5 ∷ 6 ∷ 0 ∷ 1 ∷ 3 ∷ 4 ∷ 7 ∷ []
sent_is = refl
