use Rattle.std.proofs.Common.{◌≡◌, refl, sym, ap, ◌∙◌, List, ◌++◌, ℕ, ◌+◌, arith, length, take, drop, get_or, set, length-set}
use Rattle.std.proofs.lemmas.List.Edits.{sets-eq}
use Rattle.std.proofs.Math.Numerals.{add-one}
use Rattle.std.proofs.Math.Seq.{paste, paste-zero, paste-suc, take-length}
use Rattle.one_block.proofs.copy.Goals as goal

pub loop-k-init : goal.loop-k-init
loop-k-init c = (paste-zero c.args.image.now c.args.place c.args.words.now, refl)

pub loop-k-preserved : goal.loop-k-preserved
loop-k-preserved c = let l = c.loop-k in
    let a = c.args in (
      ap (λ (x : List ℕ). set x (a.place + l.k) (get_or a.words.now l.k 0)) l.invariant.0
          ∙ paste-suc a.image.now a.place a.words.now l.k 0 (omega arith) (omega arith)
          ∙ ap (λ (n : ℕ). paste a.image.now a.place a.words.now n) (sym (add-one l.k)),
      length-set l.image (a.place + l.k) (get_or a.words.now l.k 0) ∙ l.invariant.1,
    )

pub returns : goal.returns
returns c = let l = c.loop-k in
    let a = c.args in
    let all : l.k ≡ length a.words.now = omega arith in
    l.invariant.0
    ∙ ap (λ (n : ℕ). paste a.image.now a.place a.words.now n) all
    ∙ ap (λ (x : List ℕ). take a.place a.image.now ++ x ++ drop (a.place + length a.words.now) a.image.now) (take-length a.words.now)
    ∙ sym (sets-eq a.words.now a.image.now a.place c.requires)
