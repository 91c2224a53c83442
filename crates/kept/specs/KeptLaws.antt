-- In range, by each call: a fresh ledger is, a release and a frame keep it so, and 39 refuses none that is.
use Rattle.std.specs.Prelude.{◌≡◌, refl, Bool, true, false, cond, List, ℕ, ◌+◌, ◌*◌, ◌<◌, ◌≤◌, ltb, eqb, length, get_or, set}
use Rattle.std.proofs.Common.{sym, ◌∙◌, ap, subst, ⊎_elim, zero-le, le_refl, le_trans, lt_of_lt_of_le, arith, lit≤, lit<, length-set, le-ltb, lt-ltb, eqb-true}
use Rattle.laws.specs.ScanLaws.{none_all}
use Rattle.image.specs.Layout.{image_in, count_of}
use Rattle.image.specs.Sound.{Sound}
use Rattle.image.specs.declared.tables.Table.TheVariants.{Policing}
use Rattle.fields.specs.Fields.{part_spc, smax}
use Rattle.ledger.specs.Row.{units, credit, since, frames, drops, octets, dropped, last, start, many, cell_count, cell, put}
use Rattle.ledger.specs.Range.{latest, units_over, full_of, credit_over, octets_off, counts_off, tiles_off, times_over, out_of_range}
use Rattle.ledger.proofs.Laws.{cells, other_place}
use Rattle.ledger.specs.Stands.{Counted, InRange}
use Rattle.row.specs.Fresh.{fresh_of}
use Rattle.row.specs.Release.{release_refusal, given_to, released, Releasable}
use Rattle.row.specs.ReleaseLaws.{releasable}
use Rattle.spend.specs.Proved.{now_stored}
use Rattle.frame.specs.Bytes.{octets_of}
use Rattle.plan.specs.declared.Course.{Course}
use Rattle.plan.specs.Sane.{Sane}
use Rattle.spend.specs.declared.Held.{Held}
use Rattle.settle.specs.Settle.{meter_of, settled_by, held_at, stored, Judged}
use Rattle.settle.specs.Note.{counts_at, noted}
use Rattle.settle.specs.Noted.{time_noted}
use Rattle.settle.specs.RunsLaws.{runs}
use Rattle.judge.specs.Refusal.{refusal_of}
use Rattle.judge.specs.Judge.{judge_of, call_of}
use Rattle.judge.specs.Admitted.{Admitted}
use Rattle.settle.specs.After.{spent_at, row_after}
use Rattle.judge.specs.Laws.{admitted}
use Rattle.judge.specs.Cases.{by_cases, call_keeps}
use Rattle.kept.specs.Lists.{same_or_not, same_part}
use Rattle.kept.specs.Fresh.{fresh_length, fresh_units, fresh_credit, fresh_zero}
use Rattle.kept.specs.Cells.{spent_units, spent_credit, one_more, counted_as}
use Rattle.kept.specs.Kept.{Kept}

-- ---- 39 refuses none that is in range
chain : (t y : Bool) → t ≡ false → y ≡ false → cond t true y ≡ false
chain t y e h = ap (λ (b : Bool). cond b true y) e ∙ h

counts_pass : (f d o x : ℕ) → Counted f d o x → counts_off f d o x ≡ false
unfolding octets_off
counts_pass f d o x c =
    chain (ltb f d) _ (le-ltb f d c.fewer)
    (chain (octets_off f o) _ (chain (ltb o (4 * f)) _ (le-ltb o (4 * f) c.least) (le-ltb (4100 * f) o c.most))
    (chain (octets_off d x) _ (chain (ltb x (4 * d)) _ (le-ltb x (4 * d) c.dropped_least) (le-ltb (4100 * d) x c.dropped_most)) (le-ltb o x c.within)))

pub passes_39 : (image g : List ℕ) → InRange image g → out_of_range image g ≡ false
unfolding out_of_range
passes_39 image g r =
    chain (units_over image g) _ (none_all (many units) _ (λ j h. le-ltb _ _ (r.spaced j h)))
    (chain (credit_over image g) _ (none_all (many credit) _ (λ k h. le-ltb _ _ (r.metered k h)))
    (chain (tiles_off g) _ (none_all (many frames) _ (λ p h. counts_pass _ _ _ _ (r.tiled p h)))
    (chain (times_over g) _ (none_all (many since) _ (λ k h. le-ltb _ _ (r.timed k h))) (le-ltb latest (cell g last 0) r.early))))

-- ---- a fresh ledger
no_counts : Counted 0 0 0 0
no_counts = record { fewer = zero-le; least = zero-le; most = zero-le; dropped_least = zero-le; dropped_most = zero-le; within = zero-le }

pub fresh_kept : (image : List ℕ) → Kept image (fresh_of image)
fresh_kept image =
    record {
      all = fresh_length image;
      range =
          record {
            spaced = λ j h. subst (λ (x : ℕ). x ≤ part_spc image j) (sym (fresh_units image j h)) (le_refl (part_spc image j));
            metered = λ k h. subst (λ (x : ℕ). x ≤ full_of image k) (sym (fresh_credit image k h)) (le_refl (full_of image k));
            tiled =
                λ p h. counted_as 0 0 0 0 _ _ _ _ (fresh_zero image (start frames) p (omega arith) (omega arith))
                (fresh_zero image (start drops) p (omega arith) (omega arith))
                (fresh_zero image (start octets) p (omega arith) (omega arith))
                (fresh_zero image (start dropped) p (omega arith) (omega arith))
                no_counts;
            timed = λ k h. subst (λ (x : ℕ). x ≤ cell (fresh_of image) last 0) (sym (fresh_zero image (start since) k (omega arith) (omega arith))) zero-le;
            early = subst (λ (x : ℕ). x ≤ latest) (sym (fresh_zero image (start last) 0 (lit≤ tt) (lit< tt))) zero-le;
          };
    }

-- ---- a release
released_kept : (buffer g : List ℕ) (part : ℕ) → Kept (image_in buffer) g → Releasable buffer g part → Kept (image_in buffer) (given_to g part)
released_kept buffer g part k r =
    let inside : part < many units = r.has.inside in
    let only : 0 < many last = lit< tt in
    record {
      all = length-set g (start units + part) _ ∙ k.all;
      range =
          record {
            spaced =
                λ j l. same_part (λ i x. x ≤ part_spc (image_in buffer) i) g (start units) part (cell g units part + 1) j (omega (arith, k.all)) (omega (arith, r.out))
                (k.range.spaced j l);
            metered = λ m l. simp cells (k.range.metered m l);
            tiled = λ p l. simp cells (k.range.tiled p l);
            timed = λ m l. simp cells (k.range.timed m l);
            early = simp cells k.range.early;
          };
    }

pub release_kept : (buffer g : List ℕ) (part : ℕ) → Kept (image_in buffer) g → Kept (image_in buffer) (released buffer g part)
unfolding released
release_kept buffer g part k = by (eqb (release_refusal buffer g part) 0) refl
  where
    by : (t : Bool) → t ≡ eqb (release_refusal buffer g part) 0 → Kept (image_in buffer) (cond t (given_to g part) g)
    by true e = released_kept buffer g part k (releasable buffer g part (eqb-true (release_refusal buffer g part) 0 (sym e)))
    by false e = k

-- ---- a frame: its row between the spending and the note
record Ready (image g : List ℕ) (time : ℕ) : Type 0 where
  all : length g ≡ cell_count
  spaced : (j : ℕ) → j < many units → cell g units j ≤ part_spc image j
  metered : (k : ℕ) → k < many credit → cell g credit k ≤ full_of image k
  tiled : (p : ℕ) → p < many frames → Counted (cell g frames p) (cell g drops p) (cell g octets p) (cell g dropped p)
  timed : (k : ℕ) → k < many since → cell g since k ≤ time

ready : (image g : List ℕ) (time : ℕ) → Kept image g → cell g last 0 ≤ time → Ready image g time
ready image g time k l =
    record {
      all = k.all;
      spaced = k.range.spaced;
      metered = k.range.metered;
      tiled = k.range.tiled;
      timed = λ m h. le_trans (k.range.timed m h) l;
    }

-- what the spending leaves
stored_ready : (image g : List ℕ) (time : ℕ) (w : Course) (h : Held) → Ready image g time → w.meter < many credit → w.partition < many units
    → h.units ≤ cell g units w.partition
    → h.credit ≤ full_of image w.meter
    → h.since ≡ time
    → Ready image (stored g w h) time
stored_ready image g time w h r hm hp u c t =
    record {
      all = simp length-set r.all;
      spaced =
          λ j l. simp cells
          (same_part (λ i x. x ≤ part_spc image i) g (start units) w.partition h.units j (omega (arith, r.all)) (le_trans u (r.spaced w.partition hp)) (r.spaced j l));
      metered =
          λ k l. simp cells
          (same_part (λ i x. x ≤ full_of image i) (put g units w.partition h.units) (start credit) w.meter h.credit k (simp length-set (omega (arith, r.all))) c
          (simp cells (r.metered k l)));
      tiled = λ p l. simp cells (r.tiled p l);
      timed =
          λ k l. same_part (λ i x. x ≤ time) (put (put g units w.partition h.units) credit w.meter h.credit) (start since) w.meter h.since k
          (simp length-set (omega (arith, r.all)))
          (subst (λ (x : ℕ). x ≤ time) (sym t) (le_refl time))
          (simp cells (r.timed k l));
    }

-- what the note leaves
noted_kept : (image g : List ℕ) (port time l : ℕ) (drop : Bool) → Ready image g time → port < many frames → time ≤ latest → 4 ≤ l → l ≤ 4100
    → Kept image (noted g port time l drop)
unfolding noted
noted_kept image g port time l drop r hp early lo hi =
    let only : 0 < many last = lit< tt in
    let all = r.all in
    record {
      all = simp length-set all;
      range =
          record {
            spaced = λ j h. simp cells (r.spaced j h);
            metered = λ k h. simp cells (r.metered k h);
            tiled =
                λ p h. ⊎_elim
                (λ e. subst
                (λ (q : ℕ). Counted (cell (noted g port time l drop) frames q) (cell (noted g port time l drop) drops q) (cell (noted g port time l drop) octets q) (cell (noted g port time l drop) dropped q)) e
                (simp (cells, all) (one_more (counts_at g port) l drop (r.tiled port hp) lo hi)))
                (λ ne.
                let there : (f : List ℕ) (a v : ℕ) → get_or (set f (a + port) v) (a + p) 0 ≡ get_or f (a + p) 0 = λ f a v. other_place f a port p v ne in
                simp (cells, there) (r.tiled p h))
                (same_or_not port p);
            timed = λ k h. simp (cells, all) (r.timed k h);
            early = simp (cells, all) early;
          };
    }

-- a loaded entry's meter is full at SMAX × 8,000,000
full_is : (image : List ℕ) (m : ℕ) → m < count_of image Policing → smax image m * 8000000 ≡ full_of image m
full_is image m h = ap (λ (t : Bool). cond t (smax image m * 8000000) 0) (sym (lt-ltb m (count_of image Policing) h))

-- what a course leaves of a row, spent
spent_ready : (buffer g : List ℕ) (time l : ℕ) (w : Course) → Sound buffer → Sane (image_in buffer) w → Ready (image_in buffer) g time → Ready (image_in buffer) (row_after g w time l) time
spent_ready buffer g time l w s f r =
    stored_ready (image_in buffer) g time w (settled_by w (spent_at g w time l)).held r (lt_of_lt_of_le f.meter (s.within.within Policing)) f.partition
    (spent_units (meter_of w (held_at g w)) time (cell g units w.partition) l w.sending.ports)
    (subst (λ (x : ℕ). (spent_at g w time l).credit ≤ x) (ap (λ (x : ℕ). x * 8000000) f.own ∙ full_is (image_in buffer) w.meter f.meter)
    (spent_credit (meter_of w (held_at g w)) time (cell g units w.partition) l w.sending.ports))
    (now_stored (meter_of w (held_at g w)) time (cell g units w.partition) l w.sending.ports)

module _ (buffer g : List ℕ) (port time : ℕ) (frame : List ℕ) (k : Kept (image_in buffer) g) where
  abbrev l : ℕ
  l = octets_of frame

  -- the frame by itself, refused or not, and its time is the last once it is judged
  alone_kept : Kept (image_in buffer) (judge_of buffer g port time frame).row
      × (refusal_of buffer g port time frame ≡ 0 → cell (judge_of buffer g port time frame).row last 0 ≡ time)
  alone_kept =
      by_cases buffer g port time frame (λ (j : Judged). Kept (image_in buffer) j.row × (refusal_of buffer g port time frame ≡ 0 → cell j.row last 0 ≡ time))
      (λ z. (k, λ e. absurd (z e)))
      (λ a n e. note a g true (ready (image_in buffer) g time k a.later))
      (λ a w e f z. note a (row_after g w time l) true (spent_ready buffer g time l w a.image f (ready (image_in buffer) g time k a.later)))
      (λ a w e f z. note a (row_after g w time l) false (spent_ready buffer g time l w a.image f (ready (image_in buffer) g time k a.later)))
    where
      note : Admitted buffer g port time frame → (h : List ℕ) (drop : Bool) → Ready (image_in buffer) h time
          → Kept (image_in buffer) (noted h port time (octets_of frame) drop) × (refusal_of buffer g port time frame ≡ 0 → cell (noted h port time (octets_of frame) drop) last 0 ≡ time)
      note a h drop r = (
        noted_kept (image_in buffer) h port time (octets_of frame) drop r a.inside a.early (omega arith) (omega (arith, a.short)),
        λ e. time_noted h port time (octets_of frame) drop r.all a.inside,
      )

  -- and each of its replicas: a call keeps the ledger in range
  pub call_kept : Kept (image_in buffer) (call_of buffer g port time frame).row
  call_kept =
      (call_keeps buffer g port time frame (λ vs h. Kept (image_in buffer) h × (refusal_of buffer g port time frame ≡ 0 → cell h last 0 ≡ time)) alone_kept
      (λ e vlan place priority i.
      record {
        early = λ vs h v n q p. p;
        dropped = λ vs h v w q f z p. spent e w f h p;
        sent = λ vs h v w q f z p. spent e w f h p;
      })
      ).0
    where
      spent : refusal_of buffer g port time frame ≡ 0 → (w : Course) → Sane (image_in buffer) w → (h : List ℕ)
          → Kept (image_in buffer) h × (refusal_of buffer g port time frame ≡ 0 → cell h last 0 ≡ time)
          → Kept (image_in buffer) (row_after h w time (octets_of frame)) × (refusal_of buffer g port time frame ≡ 0 → cell (row_after h w time (octets_of frame)) last 0 ≡ time)
      spent e w f h p =
          let a = admitted buffer g port time frame e in
          let r = runs buffer w a.image f in
          let m = r.meter in
          let q = r.partition in
          let only : 0 < many last = lit< tt in
          let now : cell (row_after h w time (octets_of frame)) last 0 ≡ time = simp cells (p.1 e) in
          let after = spent_ready buffer h time (octets_of frame) w a.image f (ready (image_in buffer) h time p.0 (subst (λ (x : ℕ). x ≤ time) (sym (p.1 e)) (le_refl time))) in (
            record {
              all = after.all;
              range =
                  record {
                    spaced = after.spaced;
                    metered = after.metered;
                    tiled = after.tiled;
                    timed = λ i b. subst (λ (x : ℕ). cell (row_after h w time (octets_of frame)) since i ≤ x) (sym now) (after.timed i b);
                    early = subst (λ (x : ℕ). x ≤ latest) (sym now) a.early;
                  };
            },
            λ z. now,
          )
