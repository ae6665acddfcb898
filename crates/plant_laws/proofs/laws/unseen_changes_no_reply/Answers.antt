use Rattle.plant_laws.proofs.SeenScripts.{same_events, same_replies}
use Rattle.plant_laws.proofs.SeenViews.{itself_of}
use Rattle.plant_laws.proofs.laws.unseen_changes_no_reply.Goals as goal

pub returns-clause-seen : goal.returns-clause-seen
returns-clause-seen c = λ setting members past lines others differ.
    let sources = c.links_lead_to_sources.ensures in
    same_events setting members (itself_of sources.linked setting) (sources.forward setting) past lines others (λ t is u h. differ.closed t u is h) differ.same

pub returns-clause-replies : goal.returns-clause-replies
returns-clause-replies c = λ setting members past lines others differ t is.
    let sources = c.links_lead_to_sources.ensures in
    same_replies setting members (itself_of sources.linked setting) (sources.forward setting) (c.own_replies_are_answers.ensures setting) past lines others (λ t is u h. differ.closed t u is h) differ.same t is
