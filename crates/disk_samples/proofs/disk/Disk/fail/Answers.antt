use Rattle.disk_samples.proofs.Sound.{fit_made}
use Rattle.disk_samples.proofs.disk.Disk.fail.Goals as goal

pub happen-requires : goal.happen-requires
happen-requires c = fit_made c.args.self.now.names.now c.args.self.now.log.items c.made_of-made.result c.args.change c.made_of-made.ensures c.requires
