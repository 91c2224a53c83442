-- What document 01 says of configuration K, as counts and fields of an image: each count, and each field in use of each entry.
use Rattle.std.specs.Prelude.{◌≡◌, List, ℕ, ◌+◌, ◌<◌}
use Rattle.image.specs.Layout.{count_of}
use Rattle.image.specs.declared.tables.Table.TheVariants.{AddressLookup, Policing, VlanLookup, Forwarding, MacConfiguration, LookupParameters, ForwardingParameters, GeneralParameters, XmiiModeParameters, Retagging}
use Rattle.fields.specs.Fields.{sharindx, smax, rate, maxlen, partition, vmemb_port, vlan_bc, tag_port, vlanid, bc_domain, reach_port, fl_domain, vlan_pmap, vlanprio, port_vlanid, drpuntag, egress, ingress, part_spc}
use Rattle.config_k.specs.Tables.{others}

-- a number for each index below n, as one computed test shows
abbrev pub Each : ℕ → (ℕ → ℕ) → (ℕ → ℕ) → Type 0
Each n f g = (i : ℕ) → i < n → f i ≡ g i

-- the entries that each table has: "05 and 0D absent" is no entry, and not one zero entry; nor has K one of 12
pub record Counts (image : List ℕ) : Type 0 where
  pub addresses : count_of image AddressLookup ≡ 0
  pub policers : count_of image Policing ≡ 45
  pub vlans : count_of image VlanLookup ≡ 1
  pub forwardings : count_of image Forwarding ≡ 13
  pub ports : count_of image MacConfiguration ≡ 5
  pub lookups : count_of image LookupParameters ≡ 0
  pub spaces : count_of image ForwardingParameters ≡ 1
  pub generals : count_of image GeneralParameters ≡ 1
  pub modes : count_of image XmiiModeParameters ≡ 1
  pub retags : count_of image Retagging ≡ 0

-- "45 policing entries, SHARINDX itself, SMAX 65535, RATE 64000, MAXLEN 1518, PARTITION 0"
pub record Policed (image : List ℕ) : Type 0 where
  pub itself : Each 45 (sharindx image) (λ i. i)
  pub most : Each 45 (smax image) (λ i. 65535)
  pub speed : Each 45 (rate image) (λ i. 64000)
  pub long : Each 45 (maxlen image) (λ i. 1518)
  pub part : Each 45 (partition image) (λ i. 0)

-- "VLAN 1 with all ports in VMEMB_PORT and VLAN_BC, no tags"
pub record OneVlan (image : List ℕ) : Type 0 where
  pub members : vmemb_port image 0 ≡ 31
  pub broadcasts : vlan_bc image 0 ≡ 31
  pub tags : tag_port image 0 ≡ 0
  pub vlan : vlanid image 0 ≡ 1

-- "each port's three masks in 08 are the other four; every VLAN_PMAP passes its priority through": priority j of a port's frame becomes j, and new
-- priority q has queue q at each output
pub record Forwarded (image : List ℕ) : Type 0 where
  pub broadcasts : Each 5 (bc_domain image) others
  pub reached : Each 5 (reach_port image) others
  pub flooded : Each 5 (fl_domain image) others
  pub priorities : (port : ℕ) → port < 5 → Each 8 (vlan_pmap image port) (λ j. j)
  pub queues : (q : ℕ) → q < 8 → Each 8 (vlan_pmap image (5 + q)) (λ e. q)

-- "every port INGRESS, EGRESS, VLANID 1, VLANPRIO 0, no DRPUNTAG"
pub record Ports (image : List ℕ) : Type 0 where
  pub receives : Each 5 (ingress image) (λ i. 1)
  pub sends : Each 5 (egress image) (λ i. 1)
  pub vlan : Each 5 (port_vlanid image) (λ i. 1)
  pub priority : Each 5 (vlanprio image) (λ i. 0)
  pub untagged : Each 5 (drpuntag image) (λ i. 0)

-- "PART_SPC(0) 1, the rest 0"
pub record Spaces (image : List ℕ) : Type 0 where
  pub first : part_spc image 0 ≡ 1
  pub others : Each 7 (λ j. part_spc image (1 + j)) (λ j. 0)

-- an image that is configuration K's
pub record IsK (image : List ℕ) : Type 0 where
  pub counts : Counts image
  pub policing : Policed image
  pub vlan : OneVlan image
  pub forwarding : Forwarded image
  pub ports : Ports image
  pub spaces : Spaces image
