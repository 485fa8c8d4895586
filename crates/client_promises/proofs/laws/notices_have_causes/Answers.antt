use Rattle.client_promises.proofs.Notices.{notices_have_causes}
use Rattle.client_promises.proofs.laws.notices_have_causes.Goals as goal

pub returns : goal.returns
returns c = notices_have_causes
