-- Plain sums over a run's events and what each was answered: the units of a partition that sent frames and replicas took and releases gave back.
use Rattle.std.specs.Prelude.{Bool, true, false, cond, List, [], ◌∷◌, ℕ, ◌+◌, eqb, Ok, Err}
use Rattle.fields.specs.Fields.{partition}
use Rattle.ledger.specs.Answers.{Answer}
use Rattle.frame.specs.Bytes.{destination_of}
use Rattle.plan.specs.Enter.{Entered, Dropped, In, enter_of}
use Rattle.plan.specs.Police.{policer_of}
use Rattle.kept.specs.History.{Event, frame, release}
use Rattle.nights.specs.Nights.{Said, verdict, answer}
use Rattle.nights.specs.Sums.{Kind, refused, dropped, sent, sum_over}

-- a release was done
abbrev pub done_of : Answer → Bool
done_of (Err n) = false
done_of (Ok done) = true

-- and for C and Rust by its number, 0
abbrev pub done_flat : ℕ → Bool
done_flat n = eqb n 0

-- one unit of partition j where "PARTITION of entry k" is j; a frame that steps 1 to 6 drop has no entry k
abbrev pub unit_of : List ℕ → ℕ → ℕ → List ℕ → Entered → ℕ
unit_of image j port bytes (Dropped n) = 0
unit_of image j port bytes (In vlan place priority) = cond (eqb j (partition image (policer_of port priority (destination_of bytes)))) 1 0

-- "A sent frame takes one unit", and so does a sent replica; no other does
abbrev pub taken_by : List ℕ → ℕ → ℕ → List ℕ → Kind → ℕ
taken_by image j port bytes refused = 0
taken_by image j port bytes dropped = 0
taken_by image j port bytes sent = unit_of image j port bytes (enter_of image port bytes)

-- a frame and its replicas, whose policing entry is the frame's
abbrev pub taken_by_all : List ℕ → ℕ → ℕ → List ℕ → List Kind → ℕ
taken_by_all image j port bytes [] = 0
taken_by_all image j port bytes (k ∷ ks) = taken_by image j port bytes k + taken_by_all image j port bytes ks

-- what an event takes of partition j, `kinds` being what became of the frame and of each replica
abbrev pub takes : {Verdicts Answers : Type 0} → (Verdicts → List Kind) → List ℕ → ℕ → Event → Said Verdicts Answers → ℕ
takes kinds image j (frame port time bytes) (verdict v) = taken_by_all image j port bytes (kinds v)
takes kinds image j (frame port time bytes) (answer a) = 0
takes kinds image j (release part) said = 0

-- "A release gives back one unit", where it was done
abbrev pub gives : {Verdicts Answers : Type 0} → (Answers → Bool) → ℕ → Event → Said Verdicts Answers → ℕ
gives done j (frame port time bytes) said = 0
gives done j (release part) (verdict v) = 0
gives done j (release part) (answer a) = cond (done a) (cond (eqb j part) 1 0) 0

-- partition j's units that a run's sent frames and replicas took
abbrev pub taken : {Verdicts Answers : Type 0} → (Verdicts → List Kind) → List ℕ → ℕ → List Event → List (Said Verdicts Answers) → ℕ
taken kinds image j es said = sum_over (takes kinds image j) es said

-- and that its releases gave back
abbrev pub returned : {Verdicts Answers : Type 0} → (Answers → Bool) → ℕ → List Event → List (Said Verdicts Answers) → ℕ
returned done j es said = sum_over (gives done j) es said
