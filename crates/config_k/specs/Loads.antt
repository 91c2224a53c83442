-- K's stream loads: it passes every framing rule with K's tables, and every loading rule. The first is computed from the definitions of document 01's
-- rules over all 199 words; the second follows from K's fields, so that no test reads through the whole image.
use Rattle.std.specs.Prelude.{◌≡◌, refl, false, cond, List, ℕ, eqb}
use Rattle.std.proofs.Common.{sym, ◌∙◌, subst, lit<, lt-ltb}
use Rattle.std.proofs.Math.Path.{ap}
use Rattle.laws.specs.Scan.{some_below, first, total, twice}
use Rattle.laws.specs.ScanLaws.{none_all}
use Rattle.crc.specs.Crc.{bit, bits_out, byte_in, bytes_in, bytes_of, word_in, words_in, finished, checksum}
use Rattle.image.specs.Layout.{image_of}
use Rattle.image.specs.Blocks.{block_of}
use Rattle.fields.specs.Fields.{vlanid, index}
use Rattle.image.specs.Loaded.{incomplete}
use Rattle.broken.specs.Broken.{vlan_twice, vlan_missing, sharindx_beyond, space_over, index_twice, stray, retag_stray}
use Rattle.rules.specs.Rules.{ruled}
use Rattle.stream.specs.Paper.{Outcome, passed, blocks, framed, refused_with, outcome_of, loaded}
use Rattle.config_k.specs.Stream.{K}
use Rattle.config_k.specs.Tables.{k_tables}
use Rattle.config_k.specs.Fields.{IsK}
use Rattle.config_k.specs.FieldsProved.{k_fields}

-- every checksum, ID and length is right, and each table gets K's words
pub k_framed : framed K ≡ passed k_tables
unfolding framed blocks block_of checksum finished words_in word_in bytes_of bytes_in byte_in bits_out bit k_tables
k_framed = refl

-- ---- no rule is broken, each by what K's counts and fields are

module _ (image : List ℕ) (k : IsK image) where
  not20 : incomplete image ≡ false
  unfolding incomplete
  not20 =
      rw (
        k.counts.policers,
        k.counts.vlans,
        k.counts.forwardings,
        k.counts.ports,
        k.counts.spaces,
        k.counts.generals,
        k.counts.modes,
      )

  not21 : vlan_twice image ≡ false
  unfolding twice some_below
  not21 = ap (λ (n : ℕ). twice n (λ i. vlanid image i)) k.counts.vlans

  not22 : vlan_missing image ≡ false
  unfolding first
  not22 = none_all 5 _ (λ port h. rw (k.ports.vlan port h, k.counts.vlans, k.vlan.vlan))

  not23 : sharindx_beyond image ≡ false
  not23 = rw k.counts.policers (none_all 45 _ (λ i h. rw (k.policing.itself i h, lt-ltb i 45 h)))

  not24 : space_over image ≡ false
  unfolding total
  not24 =
      rw (
        k.spaces.first,
        k.spaces.others 0 (lit< tt),
        k.spaces.others 1 (lit< tt),
        k.spaces.others 2 (lit< tt),
        k.spaces.others 3 (lit< tt),
        k.spaces.others 4 (lit< tt),
        k.spaces.others 5 (lit< tt),
        k.spaces.others 6 (lit< tt),
      )

  not25 : index_twice image ≡ false
  unfolding twice some_below
  not25 = ap (λ (n : ℕ). twice n (λ i. index image i)) k.counts.addresses

  not28 : retag_stray image ≡ false
  unfolding some_below
  not28 = ap (λ (n : ℕ). some_below n (stray image)) k.counts.retags

  keeps : ruled image ≡ 0
  unfolding ruled
  keeps = rw (not20, not21, not22, not23, not24, not25, not28)

pub k_ruled : ruled (image_of k_tables) ≡ 0
k_ruled = keeps (image_of k_tables) k_fields

-- "answer 0 means loaded": the answer, and the image that K's tables fix
pub k_loaded : loaded K ≡ record { number = 0; image = image_of k_tables }
k_loaded =
    ap outcome_of k_framed ∙ ap (λ (n : ℕ). cond (eqb n 0) (record { number = 0; image = image_of k_tables }) (refused_with n)) k_ruled

k_image : (loaded K).image ≡ image_of k_tables
k_image = ap (λ (o : Outcome). o.image) k_loaded

-- what K's stream loads is configuration K, field by field
pub k_is : IsK (loaded K).image
k_is = subst IsK (sym k_image) k_fields
