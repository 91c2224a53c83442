-- Steps 1 to 8 under configuration K, computed from K's fields.
use Rattle.std.specs.Prelude.{◌≡◌, List, ℕ, replicate}
use Rattle.std.proofs.Math.Path.{refl, ap}
use Rattle.std.proofs.Common.{◌∙◌, lit<}
use Rattle.std.specs.Int.Bits.{bit_and}
use Rattle.laws.specs.Scan.{some_below, first}
use Rattle.fields.specs.Fields.{vmemb_port, vlan_bc, reach_port, egress}
use Rattle.config_k.specs.Fields.{IsK}
use Rattle.frame.specs.Bytes.{tag_of}
use Rattle.frame.specs.Intake.{intake_of}
use Rattle.ports.specs.Ports.{wanted_of, egress_ports, others, ports_of, sending_at, sending_of}
use Rattle.ports.specs.Laws.{same_cut, same_mask}
use Rattle.plan.specs.Plan.{Dropped, Goes, course_of, plan_of}
use Rattle.plan.specs.Enter.{In, enter_of}
use Rattle.plan.specs.Steps.{placed_of, kept_out}
use Rattle.plan.specs.Police.{policed_of}
use Rattle.judge.specs.Judge.{plan_for}
use Rattle.night_k.specs.Output.{sent_of_k}

module _ (image : List ℕ) (k : IsK image) where
  -- 1 to 6: on VLAN 1, at place 0 of 07, with priority 0
  entered : enter_of image 0 (replicate 60 0xFF) ≡ In 1 0 0
  unfolding enter_of intake_of tag_of placed_of kept_out some_below first
  entered =
      rw (
        k.ports.receives 0 (lit< tt),
        k.ports.untagged 0 (lit< tt),
        k.ports.vlan 0 (lit< tt),
        k.ports.priority 0 (lit< tt),
        k.counts.vlans,
        k.vlan.vlan,
        k.counts.addresses,
      )

  -- "broadcast takes BC_DOMAIN cut with VLAN_BC"
  wanted : wanted_of image 0 1 0 0xFFFFFFFFFFFF ≡ 30
  unfolding wanted_of
  wanted =
      ap (λ (x : ℕ). bit_and x (vlan_bc image 0)) (k.forwarding.broadcasts 0 (lit< tt)) ∙ ap (λ (x : ℕ). bit_and 30 x) k.vlan.broadcasts

  -- "the ports with EGRESS"
  outgoing : egress_ports image ≡ 31
  outgoing =
      same_mask (egress image 0) (egress image 1) (egress image 2) (egress image 3) (egress image 4) 1 1 1 1 1 (k.ports.sends 0 (lit< tt))
      (k.ports.sends 1 (lit< tt)) (k.ports.sends 2 (lit< tt)) (k.ports.sends 3 (lit< tt)) (k.ports.sends 4 (lit< tt))

  -- "these are cut with REACH_PORT, VMEMB_PORT and the ports with EGRESS, and the reception port is taken out"
  sent_to : ports_of image 0 1 0 0xFFFFFFFFFFFF ≡ 30
  unfolding ports_of
  sent_to =
      same_cut (wanted_of image 0 1 0 0xFFFFFFFFFFFF) (reach_port image 0) (vmemb_port image 0) (egress_ports image) (others 0) 30 30 31 31 30 wanted
      (k.forwarding.reached 0 (lit< tt)) k.vlan.members outgoing refl

  -- where the frame goes, and what it is metered by
  course : course_of image 0 0xFFFFFFFFFFFF 1 0 0 40 40
      ≡ record { meter = 40; smax = 65535; rate = 64000; partition = 0; sending = sent_of_k }
  unfolding course_of sending_of sending_at
  course =
      rw (
        sent_to,
        k.policing.most 40 (lit< tt),
        k.policing.speed 40 (lit< tt),
        k.policing.part 40 (lit< tt),
        k.forwarding.priorities 0 (lit< tt) 0 (lit< tt),
        k.vlan.tags,
        k.forwarding.queues 0 (lit< tt) 1 (lit< tt),
        k.forwarding.queues 0 (lit< tt) 2 (lit< tt),
        k.forwarding.queues 0 (lit< tt) 3 (lit< tt),
        k.forwarding.queues 0 (lit< tt) 4 (lit< tt),
      )

  -- a broadcast of 60 bytes on port 0 goes, by entry 40 of 06: "k is 40 + port for destination FF:FF:FF:FF:FF:FF"
  pub goes : plan_for image 0 (replicate 60 0xFF) ≡ Goes (record { meter = 40; smax = 65535; rate = 64000; partition = 0; sending = sent_of_k })
  unfolding plan_for plan_of policed_of
  goes = rw (entered, k.counts.policers, k.policing.itself 40 (lit< tt), k.policing.long 40 (lit< tt), course)

-- one of 59 bytes is dropped at 1, "L below 64", under every image
pub too_few : (image : List ℕ) → plan_for image 1 (replicate 59 0xFF) ≡ Dropped 1
unfolding plan_for enter_of intake_of
too_few image = refl
