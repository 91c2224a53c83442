-- What a verdict says tells every verdict apart.
use Rattle.std.specs.Prelude.{◌≡◌, refl, List, ℕ, get_or}
use Rattle.std.proofs.Common.{ap}
use Rattle.laws.specs.Says.{Says}
use Rattle.laws.specs.SaysLaws.{other_kind}
use Rattle.ports.specs.declared.Sending.{Sending}
use Rattle.settle.specs.declared.Verdict.{Verdict}
use Rattle.settle.specs.declared.Verdict.TheVariants.{Refused, Drop, Sent}
use Rattle.judge.specs.Judge.{said_of}

-- a sending of its nine values
sending_in : List ℕ → Sending
sending_in v =
    record {
      ports = get_or v 0 0;
      vlan = get_or v 1 0;
      priority = get_or v 2 0;
      tags = get_or v 3 0;
      queue0 = get_or v 4 0;
      queue1 = get_or v 5 0;
      queue2 = get_or v 6 0;
      queue3 = get_or v 7 0;
      queue4 = get_or v 8 0;
    }

pub apart : (a b : Verdict) → said_of a ≡ said_of b → a ≡ b
unfolding sending_in
apart (Refused m) (Refused n) e = ap (λ (s : Says). Refused s.number) e
apart (Drop m) (Drop n) e = ap (λ (s : Says). Drop s.number) e
apart (Sent s) (Sent t) e = ap (λ (x : Says). Sent (sending_in x.values)) e
apart (Refused m) (Drop n) e = absurd (other_kind e refl)
apart (Refused m) (Sent t) e = absurd (other_kind e refl)
apart (Drop m) (Refused n) e = absurd (other_kind e refl)
apart (Drop m) (Sent t) e = absurd (other_kind e refl)
apart (Sent s) (Refused n) e = absurd (other_kind e refl)
apart (Sent s) (Drop n) e = absurd (other_kind e refl)
