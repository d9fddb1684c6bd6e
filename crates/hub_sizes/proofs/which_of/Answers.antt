use Rattle.std.proofs.Common.{rules}
use Rattle.hub_sizes.specs.Operations.{which_used, which_unused, which_all}
use Rattle.hub_sizes.proofs.which_of.Goals as goal

pub returns-in-0 : goal.returns-in-0
returns-in-0 c = search (rules, which_used)

pub returns-in-1 : goal.returns-in-1
returns-in-1 c = search (rules, which_unused)

pub returns-in_default : goal.returns-in_default
returns-in_default c = search (rules, which_all)
