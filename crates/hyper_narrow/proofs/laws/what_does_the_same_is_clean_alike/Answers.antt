use Rattle.hyper_narrow.proofs.ActsAlike.{clean_alike}
use Rattle.hyper_narrow.proofs.laws.what_does_the_same_is_clean_alike.Goals as goal

pub returns : goal.returns
returns c = clean_alike
