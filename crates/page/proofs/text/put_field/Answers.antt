-- `page::text::put_field` meets its contract.
use Rattle.page.proofs.Fields.{posting_put}
use Rattle.page.proofs.text.put_field.Goals as goal

pub returns-in-Some : goal.returns-in-Some
returns-in-Some c = posting_put _ _ c.requires c.put_column.auto.columns c.in-Some.is c.put_column.ensures
