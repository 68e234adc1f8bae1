use Rattle.redodb_replica.proofs.lists.rank_of.Goals as goal

pub rank-requires : goal.rank-requires
rank-requires c = c.requires.ranks.within c.args.n c.requires.name
