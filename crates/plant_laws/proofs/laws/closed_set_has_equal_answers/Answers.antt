use Rattle.plant_laws.proofs.Loops.{same_loops, members_answers}
use Rattle.plant_laws.proofs.SeenViews.{itself_of}
use Rattle.plant_laws.proofs.laws.closed_set_has_equal_answers.Goals as goal

pub returns-clause-seen : goal.returns-clause-seen
returns-clause-seen c = λ setting plant dynamics members past others differ.
    let sources = c.links_lead_to_sources.ensures in
    same_loops setting plant dynamics members (itself_of sources.linked setting) (sources.forward setting) past others differ

pub returns-clause-answers : goal.returns-clause-answers
returns-clause-answers c = λ setting plant dynamics members past others differ t is.
    let sources = c.links_lead_to_sources.ensures in
    members_answers setting plant dynamics members (itself_of sources.linked setting) (sources.forward setting) past others differ t is
