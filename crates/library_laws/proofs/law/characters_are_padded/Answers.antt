use Rattle.library_laws.proofs.CharacterPadded.{pads_characters}
use Rattle.library_laws.proofs.law.characters_are_padded.Goals as goal

pub returns : goal.returns
returns c = record { law = pads_characters }
