-- The tests behind refusals 31 and 30 (document 01, "One frame, step by step"): they look at the buffer's length, the mark and the counts, and at no entry.
use Rattle.std.specs.Prelude.{Bool, true, cond, not, List, ℕ, ltb, eqb, length}
use Rattle.laws.specs.Scan.{some_below}
use Rattle.image.specs.Rows.{table_count, row_at, most_of}
use Rattle.image.specs.Layout.{image_words, count_of, mark_of}
use Rattle.image.specs.declared.tables.Table.{Table}
use Rattle.image.specs.declared.tables.Table.TheVariants.{Policing, VlanLookup, Forwarding, MacConfiguration, ForwardingParameters, GeneralParameters, XmiiModeParameters}

-- 31: "image buffer too short"
abbrev pub too_short : List ℕ → Bool
too_short image = ltb (length image) image_words

-- a table's count is above its most entries
abbrev pub above : List ℕ → Table → Bool
above image t = ltb (most_of t) (count_of image t)

-- "a count above its limit": of some row's table
unfoldable pub over_limit : List ℕ → Bool
over_limit image = some_below table_count (λ k. above image (row_at k).table)

-- rule 20: "06 or 07 has no entry, or 08 not 13, 09 not 5, 0E, 11 or 4E not 1"
unfoldable pub incomplete : List ℕ → Bool
incomplete image =
    cond (eqb (count_of image Policing) 0) true
    (cond (eqb (count_of image VlanLookup) 0) true
    (cond (not (eqb (count_of image Forwarding) 13)) true
    (cond (not (eqb (count_of image MacConfiguration) 5)) true
    (cond (not (eqb (count_of image ForwardingParameters) 1)) true
    (cond (not (eqb (count_of image GeneralParameters) 1)) true (not (eqb (count_of image XmiiModeParameters) 1)))))))

-- 30 for a frame: "image not marked loaded, or a count above its limit or such as rule 20 refuses"
unfoldable pub not_loaded : List ℕ → Bool
not_loaded image = cond (not (eqb (mark_of image) 1)) true (cond (over_limit image) true (incomplete image))
