-- Ports (document 01, "Ports, with 08's masks from entry port").
use Rattle.std.specs.Prelude.{cond, List, ℕ, ◌+◌, ◌-◌, ◌*◌, ◌^◌, eqb}
use Rattle.std.specs.Int.Bits.{bit_and}
use Rattle.image.specs.Layout.{count_of}
use Rattle.image.specs.declared.tables.Table.TheVariants.{AddressLookup}
use Rattle.fields.specs.Fields.{destports, vmemb_port, vlan_bc, tag_port, bc_domain, reach_port, fl_domain, vlan_pmap, egress}
use Rattle.addresses.specs.Address.{holds, destination_at}
use Rattle.frame.specs.Bytes.{broadcasts}
use Rattle.ports.specs.declared.Sending.{Sending}

-- "the 05 match .. gives DESTPORTS; with no match, FL_DOMAIN"
abbrev pub towards : List ℕ → ℕ → ℕ → ℕ
towards image port found = cond (eqb found (count_of image AddressLookup)) (fl_domain image port) (destports image found)

-- "broadcast takes BC_DOMAIN cut with VLAN_BC; otherwise the 05 match on destination with the lowest INDEX"
unfoldable pub wanted_of : List ℕ → ℕ → ℕ → ℕ → ℕ → ℕ
wanted_of image port vlan entry destination =
    cond (broadcasts destination) (bit_and (bc_domain image port) (vlan_bc image entry)) (towards image port (destination_at image vlan destination))

-- a mask from a bit for each port: "port 0 the lowest bit"
abbrev pub mask_of : ℕ → ℕ → ℕ → ℕ → ℕ → ℕ
mask_of a b c d e = a + 2 * b + 4 * c + 8 * d + 16 * e

-- "the ports with EGRESS"
abbrev pub egress_ports : List ℕ → ℕ
egress_ports image = mask_of (egress image 0) (egress image 1) (egress image 2) (egress image 3) (egress image 4)

-- "the reception port is taken out"
abbrev pub others : ℕ → ℕ
others port = 31 - 2 ^ port

abbrev pub cut : ℕ → ℕ → ℕ → ℕ → ℕ → ℕ
cut wanted reach members outgoing rest = bit_and (bit_and (bit_and (bit_and wanted reach) members) outgoing) rest

-- "these are cut with REACH_PORT, VMEMB_PORT and the ports with EGRESS, and the reception port is taken out"
unfoldable pub ports_of : List ℕ → ℕ → ℕ → ℕ → ℕ → ℕ
ports_of image port vlan entry destination =
    cut (wanted_of image port vlan entry destination) (reach_port image port) (vmemb_port image entry) (egress_ports image) (others port)

-- "the queue at output e is VLAN_PMAP(e) of entry 5 + q"; "0 where not sent"
abbrev pub queue_of : List ℕ → ℕ → ℕ → ℕ → ℕ
queue_of image ports q e = cond (holds ports e) (vlan_pmap image (5 + q) e) 0

-- "the sent ports in TAG_PORT send a tag"
unfoldable pub sending_at : List ℕ → ℕ → ℕ → ℕ → ℕ → Sending
sending_at image ports vlan q entry =
    record {
      ports = ports;
      vlan = vlan;
      priority = q;
      tags = bit_and ports (tag_port image entry);
      queue0 = queue_of image ports q 0;
      queue1 = queue_of image ports q 1;
      queue2 = queue_of image ports q 2;
      queue3 = queue_of image ports q 3;
      queue4 = queue_of image ports q 4;
    }

-- "new priority q is VLAN_PMAP(p) of 08 entry port"
unfoldable pub sending_of : List ℕ → ℕ → ℕ → ℕ → ℕ → ℕ → Sending
sending_of image port ports vlan priority entry = sending_at image ports vlan (vlan_pmap image port priority) entry
