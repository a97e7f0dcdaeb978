use Rattle.chain_law.proofs.frames.Apart.{frames_apart}
use Rattle.chain_law.proofs.law.frames_are_apart.Goals as goal

pub returns : goal.returns
returns c = frames_apart
