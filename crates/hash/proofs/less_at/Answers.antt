use Rattle.hash.specs.Hash.{less_hash}
use Rattle.hash.specs.HashLaws.{hash_part}
use Rattle.hash.specs.Order.{order_is_less}
use Rattle.hash.proofs.less_at.Goals as goal

pub returns : goal.returns
unfolding less_hash
returns c = rw (c.is_lt.ensures, c.cmp.ensures, hash_part, hash_part) (order_is_less _ _)
