-- `bits::field`: the word or the pair of words that the code reads is where the field's bits lie.
use Rattle.std.proofs.Common.{◌≡◌, sym, ◌∙◌, ap, subst, ℕ, ◌+◌, ◌-◌, ◌*◌, ◌/◌, ◌%◌, ◌^◌, ◌<◌, ◌≤◌, le_of_lt, lt_of_lt_of_le, arith, List, take, drop}
use Rattle.image.specs.Rows.{start_of, size_of, most_of}
use Rattle.image.specs.RowLaws.{entry_ends}
use Rattle.image.specs.Layout.{Held, image_words, image_in}
use Rattle.image.specs.declared.tables.Table.{Table}
use Rattle.fields.specs.Fields.{number, bits, field_of}
use Rattle.fields.specs.Words.{Words}
use Rattle.fields.specs.Laws.{words_in_lem, field_in_word, field_in_pair}
use Rattle.fields.proofs.bits.field.Goals as goal

below : (t : Table) (i : ℕ) (buffer : List ℕ) → Held t i buffer → i < most_of t
below t i buffer h = lt_of_lt_of_le h.there h.within

-- an entry that is there lies in the image
inside : (t : Table) (i at : ℕ) (buffer : List ℕ) → Held t i buffer → at ≡ start_of t + i * size_of t → at + size_of t ≤ image_words
inside t i at buffer h e = subst (λ (x : ℕ). x + size_of t ≤ image_words) (sym e) (omega (arith, entry_ends t i (below t i buffer h)))

-- its words are the buffer's
same : (t : Table) (i at : ℕ) (buffer : List ℕ) (top bottom : ℕ) → Held t i buffer → at ≡ start_of t + i * size_of t
    → bits (number (take (size_of t) (drop at buffer))) top bottom ≡ field_of (image_in buffer) t i top bottom
same t i at buffer top bottom h e =
    ap (λ (ws : List ℕ). bits (number ws) top bottom)
    (sym (words_in_lem at (size_of t) buffer (inside t i at buffer h e)) ∙ ap (λ (x : ℕ). take (size_of t) (drop x (image_in buffer))) e)

pub entry_at-requires : goal.entry_at-requires
entry_at-requires c = le_of_lt (below c.args.table c.args.i c.args.image.now c.requires.there)

pub overflow_add-low : goal.overflow_add-low
overflow_add-low c = record { fits = omega (arith, inside c.args.table c.args.i _ c.args.image.now c.requires.there c.entry_at.ensures.0) }

pub offset_bounds-image-low : goal.offset_bounds-image-low
offset_bounds-image-low c = omega (arith, inside c.args.table c.args.i _ c.args.image.now c.requires.there c.entry_at.ensures.0)

pub bounds-image-low : goal.bounds-image-low
bounds-image-low c = omega (arith, inside c.args.table c.args.i _ c.args.image.now c.requires.there c.entry_at.ensures.0, c.requires.there.whole)

pub returns-then-top-bottom : goal.returns-then-top-bottom
returns-then-top-bottom c = let words : Words c.args.image.now = λ k. (c.type_inv.image k).fits in (
  c.cut.ensures.0
      ∙ ap (λ (x : ℕ). x / 2 ^ (c.args.bottom % 32) % 2 ^ (c.args.top - c.args.bottom + 1)) c.from.ensures
      ∙ sym
      (field_in_word c.args.image.now c.entry_at.result (size_of c.args.table) c.args.top c.args.bottom words
      (omega arith)
      (omega arith)
      c.if-top-bottom.true)
      ∙ same c.args.table c.args.i c.entry_at.result c.args.image.now c.args.top c.args.bottom c.requires.there c.entry_at.ensures.0,
  c.cut.ensures.1,
)

pub offset_bounds-image-low-else-top-bottom : goal.offset_bounds-image-low-else-top-bottom
offset_bounds-image-low-else-top-bottom c = omega (arith, inside c.args.table c.args.i _ c.args.image.now c.requires.there c.entry_at.ensures.0)

pub bounds-image-low-else-top-bottom : goal.bounds-image-low-else-top-bottom
bounds-image-low-else-top-bottom c = omega (arith, inside c.args.table c.args.i _ c.args.image.now c.requires.there c.entry_at.ensures.0, c.requires.there.whole)

pub overflow_add-low-else-top-bottom : goal.overflow_add-low-else-top-bottom
overflow_add-low-else-top-bottom c = omega (arith, inside c.args.table c.args.i _ c.args.image.now c.requires.there c.entry_at.ensures.0)

pub offset_bounds-image-low-else-top-bottom-2 : goal.offset_bounds-image-low-else-top-bottom-2
offset_bounds-image-low-else-top-bottom-2 c = omega (arith, inside c.args.table c.args.i _ c.args.image.now c.requires.there c.entry_at.ensures.0)

pub bounds-image-low-else-top-bottom-2 : goal.bounds-image-low-else-top-bottom-2
bounds-image-low-else-top-bottom-2 c = omega (arith, inside c.args.table c.args.i _ c.args.image.now c.requires.there c.entry_at.ensures.0, c.requires.there.whole)

pub returns-else-top-bottom : goal.returns-else-top-bottom
returns-else-top-bottom c = let words : Words c.args.image.now = λ k. (c.type_inv.image k).fits in (
  c.cut-else-top-bottom.ensures.0
      ∙ ap (λ (x : ℕ). x / 2 ^ (c.args.bottom % 32) % 2 ^ (c.args.top - c.args.bottom + 1)) c.pair.ensures
      ∙ sym
      (field_in_pair c.args.image.now c.entry_at.result (size_of c.args.table) c.args.top c.args.bottom words
      (omega arith)
      (omega arith)
      (omega arith))
      ∙ same c.args.table c.args.i c.entry_at.result c.args.image.now c.args.top c.args.bottom c.requires.there c.entry_at.ensures.0,
  c.cut-else-top-bottom.ensures.1,
)
