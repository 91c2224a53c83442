-- `verdict::list::records_of`: a record lies inside the list, and the walk goes on past it.
use Rattle.std.proofs.Common.{rules, ◌≡◌, ◌≤◌, ◌<◌, ℕ, List, length, arith, sym, ◌∙◌, ap, subst}
use Rattle.records.specs.Answer.{told}
use Rattle.records.specs.List.{stands_at}
use Rattle.records.proofs.Promises.{inside, frame_order, frame_within}
use Rattle.records.specs.Walk.{Inside}
use Rattle.records.specs.declared.Record.{Record}
use Rattle.records.specs.declared.Record.TheVariants as answer
use Rattle.verdict.proofs.list.records_of.Given.{Over}
use Rattle.verdict.proofs.list.records_of.Goals as goal
use Rattle.verdict.proofs.list.records_of.Goals.{in-Frame+in_ok-verdict-in-Frame+in_ok-replicas-in-Frame, in-Release+in_ok-released-in-Release}

-- the next place is past this one, and within the list
abbrev Moves : List ℕ → ℕ → ℕ → Type 0
Moves list at to = (at < to) × (to ≤ length list)

module _ (list : List ℕ) (at : ℕ) (r : Record) (is : told r ≡ stands_at list at) where
  inside_case : (case : Record) → r ≡ case → Inside list at (told case)
  inside_case case e = subst (λ s. Inside list at s) (sym is ∙ ap told e) (inside list at)

  moves_frame : (port time start count next : ℕ) → r ≡ answer.Frame port time start count next → (to : ℕ) → to ≡ next → Moves list at to
  moves_frame port time start count next e to p = let i = inside_case (answer.Frame port time start count next) e in omega arith

  moves_release : (partition next : ℕ) → r ≡ answer.Release partition next → (to : ℕ) → to ≡ next → Moves list at to
  moves_release partition next e to p = let i = inside_case (answer.Release partition next) e in omega arith

pub slice_bounds-judge-count : goal.slice_bounds-judge-count
slice_bounds-judge-count g c = search (rules, frame_order)

pub slice_bounds-judge-start : goal.slice_bounds-judge-start
slice_bounds-judge-start g c = search (rules, frame_order, frame_within)

pub slice_bounds-judge-end : goal.slice_bounds-judge-end
slice_bounds-judge-end g c = search (rules, frame_within)

-- the same of the place that the turn's match leaves
moves : (g : Over) (c : goal.Joined-found g) → Moves c.args.list.now c.loop-port.at c.match-found.at
moves g c =
    elim c.match-found.branch [
      | in-Frame+in_ok-verdict-in-Frame+in_ok-replicas-in-Frame w ↦ moves_frame _ _ _ c.record_from-found.ensures _ _ _ _ _ w.in-Frame.is _ w.at-is
      | in-Release+in_ok-released-in-Release w ↦ moves_release _ _ _ c.record_from-found.ensures _ _ w.in-Release.is _ w.at-is
    ]

pub overflow_add-record : goal.overflow_add-record
overflow_add-record g c = let m = moves g c in search rules

pub loop-port-smaller : goal.loop-port-smaller
loop-port-smaller g c = let m = moves g c in omega arith

pub loop-port-preserved : goal.loop-port-preserved
loop-port-preserved g c = let m = moves g c in omega arith
