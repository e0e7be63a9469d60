use Rattle.pw_store.proofs.OneOffice.{opened-of-office, opened-true}
use Rattle.pw_store_tests.proofs.sql_stores.store_on.Goals as goal
