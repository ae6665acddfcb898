use Rattle.plant_laws.proofs.SeenViews.{itself_of, same_answers, same_sources}
use Rattle.plant_laws.proofs.laws.unseen_changes_no_answer.Goals as goal

pub returns-clause-answers : goal.returns-clause-answers
returns-clause-answers c = λ setting members t past others differ.
    let sources = c.links_lead_to_sources.ensures in
    same_answers setting members (itself_of sources.linked setting) (sources.forward setting) past others t differ.same differ.sources

pub returns-clause-sources : goal.returns-clause-sources
returns-clause-sources c = λ setting members t past others differ.
    let sources = c.links_lead_to_sources.ensures in
    same_sources setting members (itself_of sources.linked setting) (sources.forward setting) past others t differ.same differ.sources
