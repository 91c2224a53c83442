-- That every plan's course has it.
use Rattle.std.specs.Prelude.{◌≡◌, refl, Bool, true, false, cond, Result, Ok, Err, IsErrAnd, List, ℕ, ◌<◌, ltb, leb}
use Rattle.std.proofs.Common.{sym, ◌∙◌, ap, mod-lt, pow_pos, leb-false}
use Rattle.image.specs.Layout.{count_of}
use Rattle.image.specs.declared.tables.Table.TheVariants.{Policing}
use Rattle.fields.specs.Fields.{sharindx, maxlen, smax, rate, partition}
use Rattle.frame.specs.Bytes.{octets_of, destination_of}
use Rattle.ports.specs.declared.Sending.{Sending}
use Rattle.ports.specs.Ports.{ports_of, sending_of}
use Rattle.drops.specs.declared.Dropped.TheVariants.{NotPoliced, TooLong}
use Rattle.plan.specs.declared.Course.{Course}
use Rattle.plan.specs.Police.{Policed, by, policer_of, metered_by, policed_of}
use Rattle.plan.specs.Plan.{course_of, by_policer, plan_of}
use Rattle.plan.specs.Sane.{Loaded, Follows}

-- a course by what was read for it
abbrev course : ℕ → ℕ → ℕ → ℕ → Sending → Course
course m s r p v = record { meter = m; smax = s; rate = r; partition = p; sending = v }

pub same_course : (image : List ℕ) (port destination vlan place priority policer meter s r p to : ℕ) (v : Sending) → s ≡ smax image meter → r ≡ rate image meter
    → p ≡ partition image policer
    → to ≡ ports_of image port vlan place destination
    → v ≡ sending_of image port to vlan priority place
    → course meter s r p v ≡ course_of image port destination vlan place priority policer meter
unfolding course_of
same_course image port destination vlan place priority policer meter s r p to v a b c d e =
    ap (λ (x : ℕ). course meter x r p v) a
    ∙ ap (λ (x : ℕ). course meter (smax image meter) x p v) b
    ∙ ap (λ (x : ℕ). course meter (smax image meter) (rate image meter) x v) c
    ∙ ap (course meter (smax image meter) (rate image meter) (partition image policer)) (e ∙ ap (λ (x : ℕ). sending_of image port x vlan priority place) d)

pub policed : (image : List ℕ) (port priority destination octets : ℕ) → Loaded image (policed_of image port priority destination octets)
unfolding policed_of
policed image port priority destination octets = go (leb (count_of image Policing) k) refl
  where
    k : ℕ
    k = policer_of port priority destination

    m : ℕ
    m = sharindx image k

    eight : k < count_of image Policing → m < count_of image Policing → (t : Bool) → Loaded image (cond t (Err TooLong) (Ok (by k m)))
    eight h l true = tt
    eight h l false = (h, l)

    seven : k < count_of image Policing → (t : Bool) → t ≡ leb (count_of image Policing) m
        → Loaded image (cond t (Err NotPoliced) (cond (ltb (maxlen image k) octets) (Err TooLong) (Ok (by k m))))
    seven h true e = tt
    seven h false e = eight h (leb-false (count_of image Policing) m (sym e)) (ltb (maxlen image k) octets)

    go : (t : Bool) → t ≡ leb (count_of image Policing) k → Loaded image (cond t (Err NotPoliced) (metered_by image k (sharindx image k) octets))
    go true e = tt
    go false e = seven (leb-false (count_of image Policing) k (sym e)) (leb (count_of image Policing) m) refl

-- a plan by what 7 and 8 answered
pub follows_by : (image : List ℕ) (port destination vlan place priority : ℕ) (q : Policed) → Loaded image q → Follows image (by_policer image port destination vlan place priority q)
unfolding course_of
follows_by image port destination vlan place priority (Err d) l = tt
follows_by image port destination vlan place priority (Ok p) l =
    record { meter = l.1; own = refl; smax = mod-lt _ (pow_pos 16); rate = mod-lt _ (pow_pos 16); partition = mod-lt _ (pow_pos 3) }

pub follows : (image : List ℕ) (port : ℕ) (frame : List ℕ) (vlan place priority : ℕ) → Follows image (plan_of image port frame vlan place priority)
unfolding plan_of
follows image port frame vlan place priority = follows_by image port (destination_of frame) vlan place priority (policed_of image port priority (destination_of frame) (octets_of frame)) (policed image port priority (destination_of frame) (octets_of frame))

-- what the exit of a `?` returns, where the error goes out as it came
pub gone_out : {T E : Type 0} (r : Result T E) (e : E) → IsErrAnd r (λ f. f ≡ e) → r ≡ Err e
gone_out (Ok x) e h = absurd h
gone_out (Err f) e h = ap Err h
