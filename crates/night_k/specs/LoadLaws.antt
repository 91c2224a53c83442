-- What a permitted whole load of K's stream leaves: configuration K's image, which is loaded, and the rest of the buffer.
use Rattle.std.specs.Prelude.{◌≡◌, false, List, ◌++◌, ℕ, ◌+◌, ◌≤◌, length, drop}
use Rattle.std.proofs.Common.{sym, ◌∙◌, ap, subst, le-add_right, length-append, le-ltb}
use Rattle.laws.specs.Scan.{some_below}
use Rattle.image.specs.Layout.{image_words, image_in, image_of, mark_of}
use Rattle.image.specs.Images.{length_layout, layout_mark}
use Rattle.image.specs.Loaded.{too_short, over_limit, incomplete, not_loaded}
use Rattle.stream.specs.declared.Answer.TheVariants.{Loaded}
use Rattle.stream.specs.Paper.{loaded, loaded_words}
use Rattle.stream.specs.BridgeLaws.{image_of_lem}
use Rattle.config_k.specs.Stream.{K}
use Rattle.config_k.specs.Tables.{k_tables}
use Rattle.config_k.specs.Fields.{IsK}
use Rattle.config_k.specs.FieldsProved.{k_fields}
use Rattle.config_k.specs.Loads.{k_loaded}
use Rattle.image.specs.Standing.{IsLoaded}
use Rattle.night_k.specs.Output.{HoldsK}

-- ---- K's image is loaded, and K by its fields
not_unmarked : (image : List ℕ) → IsK image → mark_of image ≡ 1 → not_loaded image ≡ false
unfolding not_loaded over_limit incomplete some_below
not_unmarked image k m =
    rw (
      m,
      k.counts.addresses,
      k.counts.policers,
      k.counts.vlans,
      k.counts.forwardings,
      k.counts.ports,
      k.counts.lookups,
      k.counts.spaces,
      k.counts.generals,
      k.counts.modes,
      k.counts.retags,
    )

-- field by field
pub holds_fields : (buffer : List ℕ) → HoldsK buffer → IsK (image_in buffer)
holds_fields buffer h = subst IsK (sym h.image) k_fields

-- "the mark that it is loaded", and no count that rule 20 refuses
pub holds_loaded : (buffer : List ℕ) → HoldsK buffer → IsLoaded buffer
holds_loaded buffer h =
    record { room = h.room; marked = not_unmarked (image_in buffer) (holds_fields buffer h) (ap mark_of h.image ∙ layout_mark 1 k_tables) }

-- ---- the load
-- a stream that is loaded, into a buffer with room
whole : (before words image : List ℕ) → too_short before ≡ false → loaded words ≡ record { number = 0; image = image }
    → loaded_words before words ≡ record { answer = Loaded; buffer = image ++ drop image_words before }
unfolding loaded_words
whole before words image room e = rw (room, e)

-- K's stream: "answer 0 means loaded", and the first words of "a lent buffer, whose rest is never written"
pub loads_k : (before : List ℕ) → too_short before ≡ false
    → loaded_words before K ≡ record { answer = Loaded; buffer = image_of k_tables ++ drop image_words before }
loads_k before room = whole before K (image_of k_tables) room k_loaded

-- what that leaves holds K's image
pub holds_k : (rest : List ℕ) → HoldsK (image_of k_tables ++ rest)
holds_k rest =
    record {
      room =
          le-ltb (length (image_of k_tables ++ rest)) image_words
          (subst (λ (n : ℕ). image_words ≤ n) (sym (length-append (image_of k_tables) rest ∙ ap (λ (n : ℕ). n + length rest) (length_layout 1 k_tables)))
          (le-add_right image_words (length rest)));
      image = image_of_lem 1 k_tables rest;
    }
