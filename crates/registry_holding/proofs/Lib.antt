pub mod ShownLemmas
pub mod StageLemmas
pub mod HoldingLemmas
pub mod SharingLemmas
pub mod BlobsStay
