-- What pins steps 7 and 8.
use Rattle.std.specs.Prelude.{◌≡◌, refl, Bool, cond, Ok, Err, List, ℕ, ◌<◌, ◌≤◌, ltb}
use Rattle.std.proofs.Common.{◌∙◌, ap, lt-ltb, le-leb}
use Rattle.std.proofs.lemmas.Bool.{lt-leb}
use Rattle.image.specs.Layout.{count_of}
use Rattle.image.specs.declared.tables.Table.TheVariants.{Policing}
use Rattle.fields.specs.Fields.{maxlen}
use Rattle.drops.specs.declared.Dropped.TheVariants.{NotPoliced, TooLong}
use Rattle.plan.specs.Police.{by, policer_of, metered_by}

-- k by the priority p and by the destination
pub policer_unicast : policer_of 2 5 0x010203040506 ≡ 21
policer_unicast = refl

pub policer_broadcast : policer_of 2 5 0xFFFFFFFFFFFF ≡ 42
policer_broadcast = refl

-- 7: a SHARINDX at or above the loaded entries is a drop, never an index
pub unloaded_meter : (image : List ℕ) (k meter octets : ℕ) → count_of image Policing ≤ meter → metered_by image k meter octets ≡ Err NotPoliced
unloaded_meter image k meter octets h =
    ap (λ (t : Bool). cond t (Err NotPoliced) (cond (ltb (maxlen image k) octets) (Err TooLong) (Ok (by k meter)))) (le-leb (count_of image Policing) meter h)

-- 8: MAXLEN is entry k's, whatever the meter's entry has
pub own_maxlen : (image : List ℕ) (k meter octets : ℕ) → meter < count_of image Policing → maxlen image k < octets → metered_by image k meter octets ≡ Err TooLong
own_maxlen image k meter octets h l =
    ap (λ (t : Bool). cond t (Err NotPoliced) (cond (ltb (maxlen image k) octets) (Err TooLong) (Ok (by k meter)))) (lt-leb (count_of image Policing) meter h)
    ∙ ap (λ (t : Bool). cond t (Err TooLong) (Ok (by k meter))) (lt-ltb (maxlen image k) octets l)
