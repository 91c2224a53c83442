-- What pins the ports: the reception port, what cuts a unicast, and which priority a queue goes by.
use Rattle.std.specs.Prelude.{◌≡◌, Bool, true, false, cond, List, ℕ, ◌+◌, ◌<◌}
use Rattle.std.proofs.Common.{◌∙◌, ap, ne_eqb}
use Rattle.image.specs.Layout.{count_of}
use Rattle.image.specs.declared.tables.Table.TheVariants.{AddressLookup}
use Rattle.fields.specs.Fields.{fl_domain, destports, vlan_pmap, bc_domain, vlan_bc, reach_port, vmemb_port}
use Rattle.std.specs.Int.Bits.{bit_and}
use Rattle.addresses.specs.Address.{holds, destination_at}
use Rattle.frame.specs.Bytes.{broadcasts}
use Rattle.ports.specs.Ports.{towards, wanted_of, egress_ports, ports_of, sending_at, sending_of}
use Rattle.ports.specs.Laws.{not_back}

-- no frame goes back to the port that it came from
pub taken_out : (image : List ℕ) (port vlan entry destination : ℕ) → port < 5 → holds (ports_of image port vlan entry destination) port ≡ false
unfolding ports_of
taken_out image port vlan entry destination h =
    not_back (bit_and (bit_and (bit_and (wanted_of image port vlan entry destination) (reach_port image port)) (vmemb_port image entry)) (egress_ports image)) port h

-- a unicast with a match gets its DESTPORTS, and VLAN_BC has no part in it
pub unicast : (image : List ℕ) (port vlan entry destination : ℕ) → broadcasts destination ≡ false
    → (destination_at image vlan destination ≡ count_of image AddressLookup → ⊥)
    → wanted_of image port vlan entry destination ≡ destports image (destination_at image vlan destination)
unfolding wanted_of
unicast image port vlan entry destination b h =
    ap
    (λ (t : Bool). cond t (bit_and (bc_domain image port) (vlan_bc image entry)) (towards image port (destination_at image vlan destination))) b
    ∙ ap (λ (t : Bool). cond t (fl_domain image port) (destports image (destination_at image vlan destination))) (ne_eqb _ _ h)

-- the queue at a port that the frame is sent to goes by the new priority q, which is entry port's VLAN_PMAP(p)
pub queue_by_q : (image : List ℕ) (port ports vlan priority entry : ℕ) → holds ports 0 ≡ true
    → (sending_of image port ports vlan priority entry).queue0 ≡ vlan_pmap image (5 + vlan_pmap image port priority) 0
unfolding sending_of sending_at
queue_by_q image port ports vlan priority entry h =
    ap (λ (t : Bool). cond t (vlan_pmap image (5 + vlan_pmap image port priority) 0) 0) h
