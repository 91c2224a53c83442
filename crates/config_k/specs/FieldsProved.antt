-- What document 01 says of configuration K, read off the image that its tables fix by the fields' own definitions: each count, and each field in use of
-- each entry. So the words of the tables are not K by name alone. An image gives back its lists (image: layout-entry, layout-count), so that what is
-- computed are K's own lists, of 167 words, and never the whole image.
use Rattle.std.specs.Prelude.{◌≡◌, refl, true, List, ℕ, ◌+◌, ◌*◌, ◌<◌, ◌≤◌, eqb, length, take, drop}
use Rattle.std.proofs.Common.{subst, ap, ◌∙◌, suc-mul, mul-le-mul_right, le_trans, arith, lit<, lit≤, eqb-true}
use Rattle.laws.specs.Scan.{every}
use Rattle.laws.specs.ScanLaws.{every_at}
use Rattle.image.specs.Rows.{room, row_of, size_of}
use Rattle.image.specs.Layout.{list_of, image_of}
use Rattle.image.specs.declared.tables.Table.{Table}
use Rattle.image.specs.Images.{layout_entry, layout_count}
use Rattle.image.specs.declared.tables.Table.TheVariants.{AddressLookup, Policing, VlanLookup, Forwarding, MacConfiguration, LookupParameters, ForwardingParameters, GeneralParameters, XmiiModeParameters, Retagging}
use Rattle.fields.specs.Fields.{number, bits, field_of}
use Rattle.config_k.specs.Tables.{others, k_tables}
use Rattle.config_k.specs.Fields.{Each, Counts, Policed, OneVlan, Forwarded, Ports, Spaces, IsK}

all : (n : ℕ) (f g : ℕ → ℕ) → every n (λ i. eqb (f i) (g i)) ≡ true → Each n f g
all n f g e i h = eqb-true (f i) (g i) (every_at n i (λ j. eqb (f j) (g j)) e h)

all_two : (n m : ℕ) (f g : ℕ → ℕ → ℕ) → every n (λ i. every m (λ j. eqb (f i j) (g i j))) ≡ true → (i : ℕ) → i < n → Each m (f i) (g i)
all_two n m f g e i h = all m (f i) (g i) (every_at n i (λ k. every m (λ j. eqb (f k j) (g k j))) e h)

-- ---- the image, read by K's lists

-- bits top:bottom of entry i of a table, as K's own list has it
abbrev field_in : Table → ℕ → ℕ → ℕ → ℕ
field_in t i top bottom = bits (number (take (size_of t) (drop (i * size_of t) (list_of k_tables t)))) top bottom

-- K's list for a table has n entries, which its room holds
record Has (t : Table) (n : ℕ) : Type 0 where
  fits : length (list_of k_tables t) ≤ room (row_of t)
  many : n * size_of t ≤ length (list_of k_tables t)

read : (t : Table) (n : ℕ) → Has t n → (i : ℕ) → i < n → (top bottom : ℕ) → field_of (image_of k_tables) t i top bottom ≡ field_in t i top bottom
read t n h i l top bottom =
    ap (λ (x : List ℕ). bits (number x) top bottom)
    (layout_entry 1 k_tables t i h.fits
    (le_trans (subst (λ (m : ℕ). m ≤ n * size_of t) (suc-mul i (size_of t)) (mul-le-mul_right (size_of t) l)) h.many))

-- a field of each of n entries, as one test over the list shows
field : (t : Table) (n : ℕ) → Has t n → (top bottom : ℕ) (g : ℕ → ℕ) → every n (λ i. eqb (field_in t i top bottom) (g i)) ≡ true
    → Each n (λ i. field_of (image_of k_tables) t i top bottom) g
field t n h top bottom g e i l = read t n h i l top bottom ∙ all n (λ j. field_in t j top bottom) g e i l

has_policers : Has Policing 45
unfolding k_tables
has_policers = record { fits = lit≤ tt; many = lit≤ tt }

has_vlans : Has VlanLookup 1
unfolding k_tables
has_vlans = record { fits = lit≤ tt; many = lit≤ tt }

has_masks : Has Forwarding 5
unfolding k_tables
has_masks = record { fits = lit≤ tt; many = lit≤ tt }

has_forwardings : Has Forwarding 13
unfolding k_tables
has_forwardings = record { fits = lit≤ tt; many = lit≤ tt }

has_ports : Has MacConfiguration 5
unfolding k_tables
has_ports = record { fits = lit≤ tt; many = lit≤ tt }

has_spaces : Has ForwardingParameters 1
unfolding k_tables
has_spaces = record { fits = lit≤ tt; many = lit≤ tt }

pub k_counts : Counts (image_of k_tables)
unfolding k_tables
k_counts =
    record {
      addresses = layout_count 1 k_tables AddressLookup;
      policers = layout_count 1 k_tables Policing;
      vlans = layout_count 1 k_tables VlanLookup;
      forwardings = layout_count 1 k_tables Forwarding;
      ports = layout_count 1 k_tables MacConfiguration;
      lookups = layout_count 1 k_tables LookupParameters;
      spaces = layout_count 1 k_tables ForwardingParameters;
      generals = layout_count 1 k_tables GeneralParameters;
      modes = layout_count 1 k_tables XmiiModeParameters;
      retags = layout_count 1 k_tables Retagging;
    }

pub k_policed : Policed (image_of k_tables)
unfolding number every k_tables
k_policed =
    record {
      itself = field Policing 45 has_policers 63 58 (λ i. i) refl;
      most = field Policing 45 has_policers 57 42 (λ i. 65535) refl;
      speed = field Policing 45 has_policers 41 26 (λ i. 64000) refl;
      long = field Policing 45 has_policers 25 15 (λ i. 1518) refl;
      part = field Policing 45 has_policers 14 12 (λ i. 0) refl;
    }

pub k_vlan : OneVlan (image_of k_tables)
unfolding number k_tables
k_vlan =
    record {
      members = read VlanLookup 1 has_vlans 0 (lit< tt) 53 49;
      broadcasts = read VlanLookup 1 has_vlans 0 (lit< tt) 48 44;
      tags = read VlanLookup 1 has_vlans 0 (lit< tt) 43 39;
      vlan = read VlanLookup 1 has_vlans 0 (lit< tt) 38 27;
    }

pub k_forwarded : Forwarded (image_of k_tables)
unfolding number every k_tables
k_forwarded =
    record {
      broadcasts = field Forwarding 5 has_masks 63 59 others refl;
      reached = field Forwarding 5 has_masks 58 54 others refl;
      flooded = field Forwarding 5 has_masks 53 49 others refl;
      priorities = λ port h j l.
          read Forwarding 5 has_masks port h (27 + 3 * j) (25 + 3 * j)
          ∙ all_two 5 8 (λ i m. field_in Forwarding i (27 + 3 * m) (25 + 3 * m)) (λ i m. m) refl port h j l;
      queues = λ q h e l.
          read Forwarding 13 has_forwardings (5 + q) (omega arith) (27 + 3 * e) (25 + 3 * e)
          ∙ all_two 8 8 (λ i m. field_in Forwarding (5 + i) (27 + 3 * m) (25 + 3 * m)) (λ i m. i) refl q h e l;
    }

pub k_ports : Ports (image_of k_tables)
unfolding number every k_tables
k_ports =
    record {
      receives = field MacConfiguration 5 has_ports 1 1 (λ i. 1) refl;
      sends = field MacConfiguration 5 has_ports 2 2 (λ i. 1) refl;
      vlan = field MacConfiguration 5 has_ports 21 10 (λ i. 1) refl;
      priority = field MacConfiguration 5 has_ports 24 22 (λ i. 0) refl;
      untagged = field MacConfiguration 5 has_ports 5 5 (λ i. 0) refl;
    }

pub k_spaces : Spaces (image_of k_tables)
unfolding number every k_tables
k_spaces =
    record {
      first = read ForwardingParameters 1 has_spaces 0 (lit< tt) 22 13;
      others = λ j l.
          read ForwardingParameters 1 has_spaces 0 (lit< tt) (22 + 10 * (1 + j)) (13 + 10 * (1 + j))
          ∙ all 7 (λ m. field_in ForwardingParameters 0 (22 + 10 * (1 + m)) (13 + 10 * (1 + m))) (λ m. 0) refl j l;
    }

pub k_fields : IsK (image_of k_tables)
k_fields =
    record { counts = k_counts; policing = k_policed; vlan = k_vlan; forwarding = k_forwarded; ports = k_ports; spaces = k_spaces }
