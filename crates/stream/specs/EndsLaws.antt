-- Where a whole load's run ends: a run that has been told its answer is the paper's outcome, and one that has not is 10.
use Rattle.std.specs.Prelude.{◌≡◌, refl, Bool, true, false, cond, List, [], ◌∷◌, ◌++◌, ℕ, ◌+◌, eqb, set, drop, replicate}
use Rattle.std.proofs.Common.{sym, ◌∙◌, ap, append_assoc, arith}
use Rattle.image.specs.Rows.{rows, table_count}
use Rattle.image.specs.Layout.{image_words, image_in, entries_from, counts_from, state, layout, cleared, marked}
use Rattle.image.specs.Images.{length_entries}
use Rattle.rules.specs.Rules.{ruled}
use Rattle.stream.specs.Paper.{Framed, refused, cut, passed, refused_with, ended, outcome_of, framed, loaded, numbered, into}
use Rattle.stream.specs.Machine.{Machine, at, fresh, told, refuse, finish, run, answer_of, written}
use Rattle.stream.specs.Stored.{sets_behind}
use Rattle.stream.specs.Bridge.{Agrees}
use Rattle.stream.specs.BridgeLaws.{bridge, cleared_rest, image_of_lem, rest_of}
use Rattle.stream.specs.declared.Answer.TheVariants.{More, Loaded, Refused}
use Rattle.stream.specs.declared.Phase.{Phase}
use Rattle.stream.specs.declared.Phase.TheVariants.{Device, Id, Length, Sum, Data, Told}
use Rattle.stream.specs.Ends.{settled_in, settled, final, Reached}

-- the mark goes behind the counts
layout_marked : (lists : List (List ℕ)) (rest : List ℕ) → marked (layout 0 lists ++ rest) ≡ layout 1 lists ++ rest
unfolding layout
layout_marked lists rest =
    ap (λ (l : List ℕ). marked l) (append_assoc (entries_from 0 rows lists) (counts_from 0 rows lists ++ state 0) rest)
    ∙ ap (λ (n : ℕ). set (entries_from 0 rows lists ++ (counts_from 0 rows lists ++ state 0 ++ rest)) (n + table_count) 1) (sym (length_entries 0 rows lists))
    ∙ sets_behind (entries_from 0 rows lists) (counts_from 0 rows lists ++ state 0 ++ rest) table_count (1 ∷ [])
    ∙ sym (append_assoc (entries_from 0 rows lists) (counts_from 0 rows lists ++ state 1) rest)

-- a run that waits is 10
waits_settled : (p : Phase) (buffer rest : List ℕ) → answer_of p ≡ More → drop image_words buffer ≡ rest
    → settled_in p buffer ≡ record { answer = numbered 10; buffer = replicate image_words 0 ++ rest }
waits_settled Device buffer rest e k = ap (λ (b : List ℕ). record { answer = numbered 10; buffer = b }) (cleared_rest buffer rest k)
waits_settled Id buffer rest e k = ap (λ (b : List ℕ). record { answer = numbered 10; buffer = b }) (cleared_rest buffer rest k)
waits_settled Length buffer rest e k = ap (λ (b : List ℕ). record { answer = numbered 10; buffer = b }) (cleared_rest buffer rest k)
waits_settled Sum buffer rest e k = ap (λ (b : List ℕ). record { answer = numbered 10; buffer = b }) (cleared_rest buffer rest k)
waits_settled Data buffer rest e k = ap (λ (b : List ℕ). record { answer = numbered 10; buffer = b }) (cleared_rest buffer rest k)
waits_settled (Told n) buffer rest e k = absurd (no_more (eqb n 0) e)
  where
    no_more : (t : Bool) → cond t Loaded (Refused n) ≡ More → ⊥
    no_more true q = let z : ◌≡◌ {A = ℕ} 0 1 = cc in omega arith
    no_more false q = let z : ◌≡◌ {A = ℕ} 0 1 = cc in omega arith

-- the end block has passed: the rules decide
finish_is : (lists : List (List ℕ)) (rest : List ℕ) → finish (layout 0 lists ++ rest) ≡ final (ended lists) rest
finish_is lists rest =
    ap (λ (b : List ℕ). cond (eqb (ruled (image_in b)) 0) (at (told 0) b) (refuse (layout 0 lists ++ rest) (ruled (image_in b)))) (layout_marked lists rest)
    ∙ ap (λ (i : List ℕ). cond (eqb (ruled i) 0) (at (told 0) (layout 1 lists ++ rest)) (refuse (layout 0 lists ++ rest) (ruled i))) (image_of_lem 1 lists rest)
    ∙ ap (λ (b : List ℕ). cond (eqb r 0) (at (told 0) (layout 1 lists ++ rest)) (at (told r) b)) (cleared_rest (layout 0 lists ++ rest) rest (rest_of 0 lists rest))
    ∙ either (eqb r 0)
  where
    r : ℕ
    r = ruled (layout 1 lists)

    either : (t : Bool)
        → cond t (at (told 0) (layout 1 lists ++ rest)) (at (told r) (replicate image_words 0 ++ rest))
        ≡ final (cond t (record { number = 0; image = layout 1 lists }) (refused_with r)) rest
    either true = refl
    either false = refl

-- a run that agrees with the paper's form settles on the paper's outcome
agreed : (rest : List ℕ) (f : Framed) (m : Machine) → Agrees rest f m
    → settled m ≡ record { answer = numbered (outcome_of f).number; buffer = (outcome_of f).image ++ rest }
agreed rest (refused n) m e = ap settled e
agreed rest cut m w = waits_settled m.load.phase m.buffer rest w.more w.kept
agreed rest (passed lists) m e = ap settled (e ∙ finish_is lists rest)

-- a whole load: run the machine from a fresh state over the cleared buffer, and settle
pub whole : (buffer ws : List ℕ) → settled (run (at fresh (cleared buffer)) ws) ≡ into (loaded ws) buffer
unfolding cleared
whole buffer ws = agreed (drop image_words buffer) (framed ws) (run (at fresh (replicate image_words 0 ++ drop image_words buffer)) ws) (bridge (drop image_words buffer) ws)

reached : (rest : List ℕ) (f : Framed) (m : Machine) → Agrees rest f m → Reached rest f (written m)
reached rest (refused n) m e = ap written e
reached rest cut m w = w.more
reached rest (passed lists) m e = ap written (e ∙ finish_is lists rest)

pub run_reached : (buffer ws : List ℕ) → Reached (drop image_words buffer) (framed ws) (written (run (at fresh (cleared buffer)) ws))
unfolding cleared
run_reached buffer ws = reached (drop image_words buffer) (framed ws) _ (bridge (drop image_words buffer) ws)
