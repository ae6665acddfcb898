use Rattle.giotto_text.proofs.Parsed.{parsed_reads, reads_parsed}
use Rattle.giotto_text.proofs.laws.parser.Goals as goal

pub returns-clause-reads : goal.returns-clause-reads
returns-clause-reads c = parsed_reads

pub returns-clause-only : goal.returns-clause-only
returns-clause-only c = reads_parsed
