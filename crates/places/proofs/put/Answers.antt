-- `places::put`: by the verdict's case.
use Rattle.places.specs.PlacesLaws.{put_refused, put_dropped, put_sent}
use Rattle.places.proofs.put.Goals as goal

pub returns-in-Refused : goal.returns-in-Refused
returns-in-Refused c = put_refused _ _ _ _ _ _ c.in-Refused.is c.head_of.ensures c.put_ten.ensures

pub returns-in-Drop : goal.returns-in-Drop
returns-in-Drop c = put_dropped _ _ _ _ _ _ c.in-Drop.is c.head_of-in-Drop.ensures c.put_ten-in-Drop.ensures

pub returns-in-Sent : goal.returns-in-Sent
returns-in-Sent c = put_sent _ _ _ _ _ _ c.in-Sent.is c.head_of-in-Sent.ensures c.put_ten-in-Sent.ensures
