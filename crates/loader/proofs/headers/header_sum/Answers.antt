-- `headers::header_sum`: both words go in.
use Rattle.loader.proofs.HeadersLaws.{two_words}
use Rattle.loader.proofs.headers.header_sum.Goals as goal

pub returns : goal.returns
returns c = two_words _ _ _ _ _ c.word_in.ensures c.word_in-2.ensures c.finish.ensures
