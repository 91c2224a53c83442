-- A sending of its parts.
use Rattle.std.specs.Prelude.{ℕ}
use Rattle.ports.specs.declared.Sending.{Sending}

abbrev pub sending : ℕ → ℕ → ℕ → ℕ → ℕ → ℕ → ℕ → ℕ → ℕ → Sending
sending p v q t a b c d e =
    record { ports = p; vlan = v; priority = q; tags = t; queue0 = a; queue1 = b; queue2 = c; queue3 = d; queue4 = e }
