-- A load's answer and what it says in document 01's terms.
use Rattle.std.specs.Prelude.{[]}
use Rattle.laws.specs.Says.{Says, says}
use Rattle.stream.specs.declared.Answer.{Answer}
use Rattle.stream.specs.declared.Answer.TheVariants.{More, Loaded, Refused}

-- "answer 0 means loaded"; a refusal's number is its own; "more", which has none in document 01, has the highest of 32 bits
abbrev pub said_of : Answer → Says
said_of (Refused n) = says 0 n []
said_of Loaded = says 1 0 []
said_of More = says 2 0xFFFFFFFF []
