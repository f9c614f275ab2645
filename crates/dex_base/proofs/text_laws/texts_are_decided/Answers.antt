use Rattle.dex_base.proofs.TextsDecided as law
use Rattle.dex_base.proofs.text_laws.texts_are_decided.Goals as goal

pub returns : goal.returns
returns c = law.decide_text
