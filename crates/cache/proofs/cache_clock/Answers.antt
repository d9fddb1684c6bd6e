-- Node k of valid tables is cached with no node marked, and the rows by the rule are the whole table by the rule.
use Rattle.cache.specs.Recached.{cachable, recached_rows}
use Rattle.cache.proofs.cache_clock.Goals as goal

pub cache_node-requires : goal.cache_node-requires
cache_node-requires c = cachable _ _ _ c.requires.0 c.actor_room-width.ensures c.requires.1

pub returns : goal.returns
returns c = recached_rows _ c.requires.0 _ c.requires.1 _ c.cache_node.ensures.clocks
