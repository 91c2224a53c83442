-- K's night on literal rows: the fresh ledger, and each judgement, release and tile computed from the definitions. Here alone outside its crate is
-- `judge_of` opened, since a judgement is computed.
use Rattle.std.specs.Prelude.{◌≡◌, Bool, true, false, cond, List, ltb, replicate, Ok}
use Rattle.std.proofs.Math.Path.{refl, ap, subst}
use Rattle.std.proofs.Common.{◌∙◌, lt-ltb, ltb-true, ltb-false}
use Prim.Native.Nat.{ℕ, zero, suc, ◌+◌, ◌-◌, ◌<◌}
use native.Mathlib.Omega.{arith}
use Rattle.image.specs.Layout.{image_in}
use Rattle.fields.specs.Fields.{part_spc}
use Rattle.config_k.specs.Fields.{IsK}
use Rattle.ledger.specs.Row.{cell_count}
use Rattle.ledger.specs.Range.{full_of, out_of_range, unloaded, standing}
use Rattle.row.specs.Fresh.{table, fresh_cell, fresh_of}
use Rattle.row.specs.Release.{release_refusal, released}
use Rattle.spend.specs.Spend.{paid_of, spent_of, counted_of}
use Rattle.frame.specs.Bytes.{octets_of}
use Rattle.plan.specs.Plan.{Planned}
use Rattle.settle.specs.declared.Verdict.TheVariants.{Drop, Sent}
use Rattle.settle.specs.Settle.{judged, carried_out, settled_of}
use Rattle.settle.specs.Note.{noted}
use Rattle.judge.specs.Refusal.{unjudged, refusal_of}
use Rattle.judge.specs.Judge.{plan_for, noted_of, judge_of, Called, by_itself, call_of}
use Rattle.judge.proofs.Proved.{no_match}
use Rattle.tile.specs.Tiles.{tile_at, asked_of}
use Rattle.kept.specs.Kept.{Kept}
use Rattle.kept.specs.KeptLaws.{fresh_kept, passes_39}
use Rattle.kept.specs.History.{Event, frame, release, step}
use Rattle.kept.specs.HistoryLaws.{step_kept}
use Rattle.image.specs.Standing.{IsLoaded}
use Rattle.night_k.specs.Output.{sent_of_k}
use Rattle.night_k.specs.Rows.{full, row, begun, sent_one, dropped_one, freed_one, ended}
use Rattle.night_k.specs.PlanLaws.{goes, too_few}

-- ---- the fresh ledger
-- "PART_SPC(0) 1, the rest 0"
space : ℕ → ℕ
space zero = 1
space (suc j) = 0

module _ (image : List ℕ) (k : IsK image) where
  partitions : (n : ℕ) → n < 8 → part_spc image n ≡ space n
  unfolding space
  partitions zero h = k.spaces.first
  partitions (suc j) h = subst (λ (m : ℕ). part_spc image m ≡ 0) one_more (k.spaces.others j (omega arith))
    where
      one_more : 1 + j ≡ suc j
      one_more = omega arith

  meters : (n : ℕ) → n < 45 → full_of image n ≡ full
  meters n h = rw (k.counts.policers, lt-ltb n 45 h, k.policing.most n h)

  cells : (n : ℕ) → fresh_cell image n ≡ cond (ltb n 8) (space n) (cond (ltb n 53) full 0)
  cells n = by (ltb n 8) refl (ltb n 53) refl
    where
      by : (a : Bool) → ltb n 8 ≡ a → (b : Bool) → ltb n 53 ≡ b
          → cond a (part_spc image n) (cond b (full_of image (n - 8)) 0) ≡ cond a (space n) (cond b full 0)
      by true p b q = partitions n (ltb-true n 8 p)
      by false p true q = meters (n - 8) (let l = ltb-false n 8 p in let h = ltb-true n 53 q in omega arith)
      by false p false q = refl

  -- "partitions at PART_SPC, meters full, times and tiles 0"
  pub fresh_row : fresh_of image ≡ begun
  unfolding fresh_of table row space
  fresh_row = λ t. table cell_count (λ n. cells n t)

-- ---- the calls, each at the row that the one before left
abbrev whole : List ℕ
whole = replicate 60 0xFF

abbrev short : List ℕ
short = replicate 59 0xFF

module _ (buffer : List ℕ) (l : IsLoaded buffer) (k : IsK (image_in buffer)) where
  -- from row g an event leads to row h, and a row of the night's own is never refused with 39
  leads : (g h : List ℕ) (e : Event) → Kept (image_in buffer) g → step buffer g e ≡ h → Kept (image_in buffer) h
  leads g h e p q = subst (Kept (image_in buffer)) q (step_kept buffer g e p)

  in_range : (g : List ℕ) → Kept (image_in buffer) g → out_of_range (image_in buffer) g ≡ false
  in_range g p = passes_39 (image_in buffer) g p.range

  -- neither 31 nor 30
  pub not_unloaded : unloaded buffer ≡ 0
  unfolding unloaded
  not_unloaded = rw (l.room, l.marked)

  stands : (g : List ℕ) → Kept (image_in buffer) g → standing buffer g ≡ 0
  unfolding standing
  stands g p = rw (not_unloaded, in_range g p)

  judged_by : (g : List ℕ) (port time : ℕ) (bytes : List ℕ) (w : Planned) → Kept (image_in buffer) g → unjudged g port time bytes ≡ 0
      → plan_for (image_in buffer) port bytes ≡ w
      → call_of buffer g port time bytes ≡ by_itself (noted_of port time (octets_of bytes) (carried_out g time (octets_of bytes) w))
  unfolding judge_of refusal_of
  judged_by g port time bytes w p u e =
      no_match buffer g port time bytes (λ vlan place priority q i h. absurd (let n = k.counts.retags in omega arith))
      ∙ ap by_itself (rw (stands g p, u, e))

  kept_begun : Kept (image_in buffer) begun
  kept_begun = subst (Kept (image_in buffer)) (fresh_row (image_in buffer) k) (fresh_kept (image_in buffer))

  -- "frame 1 sent 30 vlan 1 prio 0 tags 0 queues 0 0 0 0 0"
  pub first_frame : call_of buffer begun 0 10 whole ≡ by_itself (judged (Sent sent_of_k) sent_one)
  unfolding row settled_of spent_of paid_of noted counted_of
  first_frame = judged_by begun 0 10 whole _ kept_begun refl (goes (image_in buffer) k)

  kept_sent : Kept (image_in buffer) sent_one
  kept_sent = leads begun sent_one (frame 0 10 whole) kept_begun (ap (λ (c : Called). c.row) first_frame)

  -- "frame 2 drop 11"
  pub second_frame : call_of buffer sent_one 0 20 whole ≡ by_itself (judged (Drop 11) dropped_one)
  unfolding row settled_of spent_of paid_of noted counted_of
  second_frame = judged_by sent_one 0 20 whole _ kept_sent refl (goes (image_in buffer) k)

  kept_dropped : Kept (image_in buffer) dropped_one
  kept_dropped = leads sent_one dropped_one (frame 0 20 whole) kept_sent (ap (λ (c : Called). c.row) second_frame)

  -- "release 3 ok"
  pub release_done : release_refusal buffer dropped_one 0 ≡ 0
  unfolding release_refusal row
  release_done = rw (stands dropped_one kept_dropped, k.spaces.first)

  -- "gives back one unit"
  pub release_left : released buffer dropped_one 0 ≡ freed_one
  unfolding released row
  release_left = rw release_done

  kept_freed : Kept (image_in buffer) freed_one
  kept_freed = leads dropped_one freed_one (release 0) kept_dropped release_left

  -- "frame 4 drop 1"
  pub fourth_frame : call_of buffer freed_one 1 30 short ≡ by_itself (judged (Drop 1) ended)
  unfolding row noted counted_of
  fourth_frame = judged_by freed_one 1 30 short _ kept_freed refl (too_few (image_in buffer))

  kept_ended : Kept (image_in buffer) ended
  kept_ended = leads freed_one ended (frame 1 30 short) kept_freed (ap (λ (c : Called). c.row) fourth_frame)

  -- the tiles of the last row
  pub shows : (p : ℕ) → ltb 4 p ≡ false → asked_of buffer ended p ≡ Ok (tile_at ended p)
  unfolding asked_of
  shows p h = rw (l.room, h, l.marked, in_range ended kept_ended)
