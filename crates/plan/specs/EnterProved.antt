-- What pins steps 5 and 6: membership is not asked of an untagged frame, and it is of a tagged one; 5 comes first, each under its own number.
use Rattle.std.specs.Prelude.{◌≡◌, refl, Bool, true, false, cond, not, List, ℕ}
use Rattle.std.proofs.Common.{ap}
use Rattle.fields.specs.Fields.{vmemb_port}
use Rattle.addresses.specs.Address.{holds, barred}
use Rattle.plan.specs.Steps.{outsider, kept_out}

pub untagged_is_in : (image : List ℕ) (port place : ℕ) → outsider image port false place ≡ false
untagged_is_in image port place = refl

pub tagged_is_asked : (image : List ℕ) (port place : ℕ) → outsider image port true place ≡ not (holds (vmemb_port image place) port)
tagged_is_asked image port place = refl

pub outsider_is_5 : (image : List ℕ) (port vlan : ℕ) (tagged : Bool) (source place : ℕ) → outsider image port tagged place ≡ true
    → kept_out image port vlan tagged source place ≡ 5
unfolding kept_out
outsider_is_5 image port vlan tagged source place e = ap (λ (t : Bool). cond t 5 (cond (barred image port vlan source) 6 0)) e
