use Rattle.scl_key.proofs.KeyLaws.{keys-back, keys-decide}
use Rattle.scl_key.proofs.HitLaws.{hits-right}
use Rattle.scl_key.proofs.DirectLaws.{direct-hits-right}
use Rattle.scl_key.proofs.laws.of_keys.Goals as goal

pub returns : goal.returns
returns c = record { keys_read_back = keys-back; keys_decide_commands = keys-decide; hits_are_right = hits-right; direct_hits_are_right = direct-hits-right }
