-- Verdicts in lent places, ten numbers each: what a frame's call says of its replicas (document 02, request 2; D104).
use Rattle.std.specs.Prelude.{List, [], ◌∷◌, ◌++◌, ℕ, zero, suc, ◌+◌, ◌*◌, length, take, drop, set}
use Rattle.ports.specs.declared.Sending.{Sending}
use Rattle.settle.specs.declared.Verdict.{Verdict}
use Rattle.settle.specs.declared.Verdict.TheVariants.{Refused, Drop, Sent}

-- "kind + 2^32 × number": 0 refused, 1 dropped, 2 sent
abbrev pub head_of : ℕ → ℕ → ℕ
head_of kind number = kind + number * 4294967296

-- then "ports, VLAN, priority, tags, five queues"
abbrev pub values_of : Sending → List ℕ
values_of s = s.ports ∷ s.vlan ∷ s.priority ∷ s.tags ∷ s.queue0 ∷ s.queue1 ∷ s.queue2 ∷ s.queue3 ∷ s.queue4 ∷ []

abbrev pub ten : ℕ → Sending → List ℕ
ten head s = head ∷ values_of s

-- which are 0 where it is not sent
abbrev pub nowhere : Sending
nowhere = record { ports = 0; vlan = 0; priority = 0; tags = 0; queue0 = 0; queue1 = 0; queue2 = 0; queue3 = 0; queue4 = 0 }

abbrev pub ten_of : Verdict → List ℕ
ten_of (Refused n) = ten (head_of 0 n) nowhere
ten_of (Drop n) = ten (head_of 1 n) nowhere
ten_of (Sent s) = ten (head_of 2 0) s

-- numbers put one behind the other, the first i behind `at`, over what stood there
abbrev pub put_from : List ℕ → ℕ → ℕ → List ℕ → List ℕ
put_from l at i [] = l
put_from l at i (x ∷ xs) = put_from (set l (at + i) x) at (suc i) xs

-- a verdict put in place n
unfoldable pub put_in : List ℕ → ℕ → Verdict → List ℕ
put_in l n v = put_from l (10 * n) 0 (ten_of v)

-- verdicts side by side
unfoldable pub laid : List Verdict → List ℕ
laid [] = []
laid (v ∷ vs) = ten_of v ++ laid vs

-- the first places hold the verdicts in order, and "places from n on are left as found"
unfoldable pub laid_over : List Verdict → List ℕ → List ℕ
laid_over vs before = laid vs ++ drop (10 * length vs) before

-- the first n places, as they are read: ten numbers each
unfoldable pub heard : ℕ → List ℕ → List (List ℕ)
heard zero places = []
heard (suc n) places = take 10 places ∷ heard n (drop 10 places)
