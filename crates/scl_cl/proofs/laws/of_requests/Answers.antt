use Rattle.scl_description.proofs.WrittenFieldLaws.{field-escaped, escaped-printable, lines-feed}
use Rattle.scl_cl.proofs.WrittenLaws.{said-written, request-written, name-back, keyword-back}
use Rattle.scl_cl.proofs.BadLineLaws.{bad_line-first}
use Rattle.scl_cl.proofs.laws.of_requests.Goals as goal

pub returns-clause-field_reads_back : goal.returns-clause-field_reads_back
returns-clause-field_reads_back c = field-escaped

pub returns-clause-field_is_printable : goal.returns-clause-field_is_printable
returns-clause-field_is_printable c = escaped-printable

pub returns-clause-line_reads_back : goal.returns-clause-line_reads_back
returns-clause-line_reads_back c = said-written

pub returns-clause-request_reads_back : goal.returns-clause-request_reads_back
returns-clause-request_reads_back c = request-written

pub returns-clause-lines_end_at_feeds : goal.returns-clause-lines_end_at_feeds
returns-clause-lines_end_at_feeds c = lines-feed

pub returns-clause-bad_line_is_first : goal.returns-clause-bad_line_is_first
returns-clause-bad_line_is_first c = bad_line-first

pub returns-clause-names_read_back : goal.returns-clause-names_read_back
returns-clause-names_read_back c = (name-back, keyword-back)
