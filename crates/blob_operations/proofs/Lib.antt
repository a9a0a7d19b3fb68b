pub mod BlobLemmas
pub mod UploadLemmas
pub mod SessionCloseLemmas
pub mod MountLemmas
