use Rattle.std.proofs.Common.{true, ap}
use Rattle.clap.specs.Words.{App}
use Rattle.dexasm_plan.proofs.command.tool.Goals as goal

abbrev as_top : App → App
as_top a = record a { top = record a.top { subcommand_required = true; disable_help_subcommand = true; has_version = true } }

pub returns : goal.returns
returns c = record {
  shape = rw (c.disable_help_subcommand.ensures, c.subcommand_required.ensures, c.after_help.ensures, c.about.ensures, c.before_help.ensures, c.version.ensures) (ap as_top c.new.ensures.app);
  local = rw (c.disable_help_subcommand.ensures, c.subcommand_required.ensures, c.after_help.ensures, c.about.ensures, c.before_help.ensures, c.version.ensures) c.new.ensures.local;
}
