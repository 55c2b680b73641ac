use Rattle.wf_viable.proofs.Places.{other_faults_fit}
use Rattle.wf_viable.proofs.laws.other_faults_fit.Goals as goal

pub returns : goal.returns
returns c = other_faults_fit
