use Rattle.target_file.proofs.Texts.{text_bare}
use Rattle.target_file.proofs.Laws.{text_is_file}
use Rattle.target_file.proofs.law.texts_are_bare.Goals as goal

pub returns : goal.returns
returns c = record { bare = text_bare; read = text_is_file }
