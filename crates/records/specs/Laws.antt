-- Laws for the proofs of the code: its answers by cases.
use Rattle.std.specs.Prelude.{◌≡◌, List, ℕ, ◌+◌, Option, Result}
use Rattle.std.proofs.Common.{sym, ◌∙◌, ap}
use Rattle.records.specs.List.{Opens, Stands, frame, of_kind, under}
use Rattle.records.specs.Answer.{opens}
use Rattle.records.specs.declared.Refusal.{Refusal}
use Rattle.records.specs.declared.Kind.{Kind}

-- an answer by cases: what a call answered is what its promise says, so the case that a `match` found is the case to show

module _ (list : List ℕ) (at : ℕ) (s : Stands) where
  pub by_opening : (o : Opens) (r case : Result ℕ Refusal) → opens r ≡ o → r ≡ case → s ≡ under (opens case) list at → s ≡ under o list at
  by_opening o r case p e h = h ∙ ap (λ (x : Opens). under x list at) (ap opens (sym e) ∙ p)

  pub by_kind : (k r case : Option Kind) → r ≡ k → r ≡ case → s ≡ of_kind case list at → s ≡ of_kind k list at
  by_kind k r case p e h = h ∙ ap (λ (x : Option Kind). of_kind x list at) (sym e ∙ p)

pub ruleset cases = (by_opening, by_kind)

-- a frame of the numbers that were read
pub frame_of : (port time start count port' time' count' : ℕ) → port ≡ port' → time ≡ time' → count ≡ count'
    → frame port time start count (start + count) ≡ frame port' time' start count' (start + count')
frame_of port time start count port' time' count' p t c = cc
