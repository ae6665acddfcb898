use Rattle.std.proofs.Common.{Ok, sym}
use Rattle.giotto_text.specs.Canonical.{canonical_of}
use Rattle.giotto_text.proofs.CanonicalReads.{reads_back}
use Rattle.giotto_text.proofs.CanonicalSpells.{canonical_spells}
use Rattle.giotto_text.proofs.Parsed.{reads_parsed}
use Rattle.giotto_text.proofs.laws.canonical.Goals as goal

pub returns-clause-spells : goal.returns-clause-spells
returns-clause-spells c = canonical_spells

pub returns-clause-reads : goal.returns-clause-reads
returns-clause-reads c = λ p h. sym (reads_parsed (canonical_of p) (Ok p) (reads_back p h))
